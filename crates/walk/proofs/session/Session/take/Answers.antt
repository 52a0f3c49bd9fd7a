use Rattle.std.proofs.Common.{refl}
use Rattle.walk.proofs.Buffering.{less_left}
use Rattle.walk.proofs.Parts.{took_line, took_rest}
use Rattle.walk.proofs.session.Session.take.Goals as goal

pub loop-behind-smaller : goal.loop-behind-smaller
loop-behind-smaller g c = less_left _ c.loop-behind.rest.now _ c.in-Some.behind c.in-Some.ensures

pub loop-behind-preserved : goal.loop-behind-preserved
loop-behind-preserved g c v end h =
    c.loop-behind.invariant v end
    (took_line c.loop-behind.self _ c.loop-behind.rest.now (record { grammar = refl; spellings = refl; chart = refl; count = refl }) _ v
    c.in-Some.behind _ _ end c.in-Some.ensures c.in_ok-report_line.ensures h)

pub returns : goal.returns
returns g c =
    c.loop-behind.invariant _ _
    (took_rest c.loop-behind.self _ c.loop-behind.rest.now (record { grammar = refl; spellings = refl; chart = refl; count = refl }) _ c.in_default.ensures)
