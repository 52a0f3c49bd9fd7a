use Rattle.std.proofs.Common.{ℕ, List, sym, subst}
use Rattle.files.specs.Model.{model}
use Rattle.files.specs.Reading.{IsWord, IsProduction, IsRule, ReadsAs}
use Rattle.files.proofs.LineForms.{of_sort, only_word, only_production, only_rule}
use Rattle.files.proofs.spelled.SpelledDraft.read_line.Goals as goal

pub returns-in-Some : goal.returns-in-Some
returns-in-Some c =
    let line = c.args.line.now in
    let e = c.in-Some.ensures in
    of_sort (model c.args.self.now) line c.read_word.result (model c.read_word.new.self) IsWord (only_word c.in-Some.part.now line e)
    (subst (λ (l : List ℕ). ReadsAs IsWord (model c.args.self.now) l c.read_word.result (model c.read_word.new.self)) (sym e) c.read_word.ensures)

pub returns-in-Some-cut_left : goal.returns-in-Some-cut_left
returns-in-Some-cut_left c =
    let line = c.args.line.now in
    let e = c.in-Some-cut_left.ensures in
    of_sort (model c.args.self.now) line c.read_production.result (model c.read_production.new.self) IsProduction
    (only_production c.in-Some-cut_left.left c.in-Some-cut_left.rest.now line e.0 e.1)
    (subst (λ (l : List ℕ). ReadsAs IsProduction (model c.args.self.now) l c.read_production.result (model c.read_production.new.self)) (sym e.1) c.read_production.ensures)

pub returns : goal.returns
returns c =
    of_sort (model c.args.self.now) c.args.line.now c.read_rule_line.result (model c.read_rule_line.new.self) IsRule
    (only_rule c.args.line.now c.in_default.ensures c.in_default-cut_left.ensures) c.read_rule_line.ensures
