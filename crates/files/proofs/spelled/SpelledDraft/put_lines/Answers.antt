use Rattle.std.proofs.Common.{ℕ, List, ◌++◌, map, refl}
use Rattle.syntax.specs.Syntax.{word_line, mark_line, start_line}
use Rattle.syntax.proofs.Writes.{first_stops, second_stops, all_three, writes_on}
use Rattle.file_model.specs.Spelled.{Spelled}
use Rattle.file_model.specs.Files.{production_form, rule_form, ended, rendered, text_of}
use Rattle.files.specs.Model.{model}
use Rattle.files.proofs.Written.{text_bytes}
use Rattle.files.proofs.spelled.SpelledDraft.put_lines.Goals as goal

abbrev head : ℕ → List ℕ
head start = ended mark_line ++ ended (start_line start)

abbrev words_of : Spelled → List ℕ
words_of s = rendered (map word_line s.spellings)

abbrev productions_of : Spelled → List ℕ
productions_of s = rendered (map (production_form s.spellings) s.draft.productions)

abbrev rules_of : Spelled → List ℕ
rules_of s = rendered (map rule_form s.draft.rules)

pub returns-in_err-put_head : goal.returns-in_err-put_head
returns-in_err-put_head c =
    let s = model c.args.self.now in
    let start = c.start.result in
    first_stops c.args.out.now (head start) (words_of s) (productions_of s ++ rules_of s) (text_of s) (text_bytes s start c.start.ensures) _ _
    c.from_residual.ensures.1 c.put_head.new.out
    c.in_err-put_head.ensures

pub returns-in_err-put_words : goal.returns-in_err-put_words
returns-in_err-put_words c =
    let s = model c.args.self.now in
    let start = c.start.result in
    second_stops c.args.out.now (head start) (words_of s) (productions_of s ++ rules_of s) (text_of s) (text_bytes s start c.start.ensures) _ _
    c.from_residual-in_err-put_words.ensures.1 c.put_head.new.out c.put_words.new.out
    c.in_ok-put_head.ensures
    c.in_err-put_words.ensures

pub returns-in_err-put_productions : goal.returns-in_err-put_productions
returns-in_err-put_productions c =
    let s = model c.args.self.now in
    let start = c.start.result in
    let first = c.put_head.new.out in
    writes_on c.args.out.now first c.put_productions.new.out (head start) (words_of s ++ (productions_of s ++ rules_of s)) (text_of s) _ (text_bytes s start c.start.ensures)
    c.in_ok-put_head.ensures
    (second_stops first (words_of s) (productions_of s) (rules_of s) _ refl _ _ c.from_residual-in_err-put_productions.ensures.1 c.put_words.new.out c.put_productions.new.out
    c.in_ok-put_words.ensures
    c.in_err-put_productions.ensures)

pub returns : goal.returns
returns c =
    let s = model c.args.self.now in
    let start = c.start.result in
    let first = c.put_head.new.out in
    writes_on c.args.out.now first c.put_rules.new.out (head start) (words_of s ++ (productions_of s ++ rules_of s)) (text_of s) c.put_rules.result (text_bytes s start c.start.ensures)
    c.in_ok-put_head.ensures
    (all_three first (words_of s) (productions_of s) (rules_of s) _ refl c.put_rules.result c.put_words.new.out c.put_productions.new.out c.put_rules.new.out
    c.in_ok-put_words.ensures
    c.in_ok-put_productions.ensures
    c.put_rules.ensures)
