use Rattle.std.proofs.Common.{◌≡◌, ◌<◌, length, arith, rules, tests}
use Rattle.grammar.specs.Model.{productions}
use Rattle.tables.specs.Places.{last_place}
use Rattle.tables.proofs.Counting.{made_from, stored_at}
use Rattle.tables.proofs.source.Source.lasts.Goals as goal

pub returns : goal.returns
returns c p l =
    let ps = productions c.args.self.now.productions.now in
    let stored = stored_at c.args.self.now.productions.now p l in
    made_from _ _ (λ k y. k < length ps → y ≡ last_place ps k) (λ k y q called. search (rules, tests)) c.from_fn.result 0 32 c.from_fn.ensures.items.each p
    (omega arith) (omega (arith, c.args.self.now.few, stored)) l
