use Rattle.std.proofs.Common.{[], ◌∷◌, ◌++◌, map, decimal, sym, refl, subst}
use Rattle.grammar.specs.Model.{production}
use Rattle.syntax.specs.Syntax.{letter}
use Rattle.syntax.proofs.Writes.{first_stops, second_stops, all_three}
use Rattle.file_model.specs.Spelled.{written}
use Rattle.file_model.specs.Files.{ended}
use Rattle.spellings.specs.Model.{words}
use Rattle.spellings.specs.Writing.{AllSpelled, symbol_parts}
use Rattle.spellings.proofs.Written.{production_bytes}
use Rattle.spellings.proofs.spellings.Spellings.put_production_line.Goals as goal

pub put_symbols-requires : goal.put_symbols-requires
put_symbols-requires c = subst (AllSpelled (words c.args.self.now)) (sym c.right.ensures) c.requires.spelled

pub returns-in_err-put_left : goal.returns-in_err-put_left
returns-in_err-put_left c =
    let ws = words c.args.self.now in
    let p = production c.args.production.now in
    first_stops c.args.out.now (letter c.left.result ++ 32 ∷ 61 ∷ 32 ∷ []) (symbol_parts (map (written ws) p.right)) (59 ∷ 32 ∷ ended (decimal p.price)) _
    (production_bytes ws p c.left.result p.price p.right c.left.ensures refl refl) _ _
    c.from_residual.ensures.1 _
    c.in_err-put_left.ensures

pub returns-in_err-put_symbols : goal.returns-in_err-put_symbols
returns-in_err-put_symbols c =
    let ws = words c.args.self.now in
    let p = production c.args.production.now in
    let right = c.right.result.now in
    second_stops c.args.out.now (letter c.left.result ++ 32 ∷ 61 ∷ 32 ∷ []) (symbol_parts (map (written ws) right)) (59 ∷ 32 ∷ ended (decimal p.price)) _
    (production_bytes ws p c.left.result p.price right c.left.ensures c.right.ensures refl) _ _
    c.from_residual-in_err-put_symbols.ensures.1 _ _
    c.in_ok-put_left.ensures
    c.in_err-put_symbols.ensures

pub returns : goal.returns
returns c =
    let ws = words c.args.self.now in
    let p = production c.args.production.now in
    let right = c.right.result.now in
    all_three c.args.out.now (letter c.left.result ++ 32 ∷ 61 ∷ 32 ∷ []) (symbol_parts (map (written ws) right)) (59 ∷ 32 ∷ ended (decimal c.price.result)) _
    (production_bytes ws p c.left.result c.price.result right c.left.ensures c.right.ensures c.price.ensures) _ _ _ _
    c.in_ok-put_left.ensures
    c.in_ok-put_symbols.ensures
    c.put_price.ensures
