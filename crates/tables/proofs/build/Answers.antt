use Rattle.std.proofs.Common.{◌≡◌, length, sym, ap, ◌∙◌, arith, rules as steps}
use Rattle.std.proofs.lemmas.List.{length-map}
use Rattle.grammar.specs.Model.{production, productions, rules}
use Rattle.tables.proofs.Building.{means, means_same}
use Rattle.tables.proofs.Counting.{known_at, last_low}
use Rattle.tables.proofs.build.Goals as goal

pub new-source-requires : goal.new-source-requires
new-source-requires c = record { formed = (c.args.start, c.requires.formed); numbers = c.requires.numbers }

pub invariant_of-result : goal.invariant_of-result
invariant_of-result c =
    let source = c.new-source.result in
    let ps = source.productions.now in
    let size : length ps ≡ length c.args.productions.now = ap length c.new-source.ensures.productions in
    record {
      few = omega (arith, size, source.few);
      firsts = source.whole;
      lasts = search steps;
      waiting = search steps;
      kinds = search steps;
      ranked = search steps;
      low = λ k l.
          let known = known_at ps k (omega (arith, l, size)) in
          omega (arith, source.begins k known, last_low (productions ps) k known, source.small);
      high = λ k l.
          let known = known_at ps k (omega (arith, l, size)) in
          omega (arith, c.lasts.ensures k known, last_low (productions ps) k known, source.small);
    }

pub returns : goal.returns
returns c =
    let source = c.new-source.result in
    let ps = source.productions.now in
    let rs = source.rules.now in
    let start = c.args.start in
    means_same _ start ps c.args.productions.now rs c.args.rules.now c.new-source.ensures.productions c.new-source.ensures.rules
    (means _ _
    (record {
      known = sym (ap length c.new-source.ensures.productions) ∙ sym (length-map ps production);
      small = source.small;
      zero = c.new-source.ensures.zero;
      firsts = source.begins;
      lasts = c.lasts.ensures;
      waits = c.waits-waits.ensures start;
      before = c.before-2.ensures;
      live = c.live-live.ensures (rules rs) start (c.waits-waits.ensures start);
      starts = c.starts.ensures;
      ranks = c.ranks.ensures.falls;
      ranks_small = c.ranks.ensures.small;
    }))
