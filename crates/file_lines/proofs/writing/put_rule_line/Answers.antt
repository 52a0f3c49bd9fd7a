use Rattle.std.proofs.Common.{[], ◌∷◌, decimal, refl}
use Rattle.syntax.specs.Syntax.{sign}
use Rattle.file_model.specs.Files.{ended}
use Rattle.file_lines.proofs.Written.{rule_bytes}
use Rattle.syntax.proofs.Writes.{first_stops, second_stops, all_three}
use Rattle.file_lines.proofs.writing.put_rule_line.Goals as goal

pub returns-in_err-put_number : goal.returns-in_err-put_number
returns-in_err-put_number c =
    let x = c.args.rule in
    first_stops c.args.out.now (decimal c.from.result) (32 ∷ sign x.relation ∷ 32 ∷ []) (ended (decimal x.lower)) _
    (rule_bytes x c.from.result x.lower c.from.ensures refl c.requires.upper c.requires.lower) _ _
    c.from_residual.ensures.1 _
    c.in_err-put_number.ensures

pub returns-in_err-put_spaced_relation : goal.returns-in_err-put_spaced_relation
returns-in_err-put_spaced_relation c =
    let x = c.args.rule in
    second_stops c.args.out.now (decimal c.from.result) (32 ∷ sign x.relation ∷ 32 ∷ []) (ended (decimal x.lower)) _
    (rule_bytes x c.from.result x.lower c.from.ensures refl c.requires.upper c.requires.lower) _ _
    c.from_residual-in_err-put_spaced_relation.ensures.1 _ _
    c.in_ok-put_number.ensures
    c.in_err-put_spaced_relation.ensures

pub returns : goal.returns
returns c =
    let x = c.args.rule in
    all_three c.args.out.now (decimal c.from.result) (32 ∷ sign x.relation ∷ 32 ∷ []) (ended (decimal c.from-2.result)) _
    (rule_bytes x c.from.result c.from-2.result c.from.ensures c.from-2.ensures c.requires.upper c.requires.lower) _ _ _ _
    c.in_ok-put_number.ensures
    c.in_ok-put_spaced_relation.ensures
    c.put_last_number.ensures
