use Rattle.std.proofs.Common.{◌≡◌, ap, ◌∙◌, subst, arith}
use Rattle.file_model.specs.Spelled.{Spelled}
use Rattle.grammar.specs.Grammar.{Grammar, with_start}
use Rattle.draft.specs.Model.{model as grammar_of}
use Rattle.draft.proofs.Causes.{start_taken}
use Rattle.files.proofs.TextLines.{rest_short}
use Rattle.file_model.specs.Files.{ReadsFrom, started, too_long, no_mark, no_start, from_start}
use Rattle.spellings.specs.Model.{words}
use Rattle.files.specs.Model.{model}
use Rattle.files.proofs.spelled.SpelledDraft.read.Goals as goal

pub returns-then-text-gt16384 : goal.returns-then-text-gt16384
returns-then-text-gt16384 c = rw (c.in_file.ensures, c.new.ensures) (too_long c.if-text-gt16384.true)

pub returns-in_default : goal.returns-in_default
returns-in_default c = rw (c.in_file-in_default.ensures, c.new.ensures) (no_mark c.if-text-gt16384.false c.in_default.ensures)

pub returns-in_default-read_start : goal.returns-in_default-read_start
returns-in_default-read_start c = rw (c.in_file-in_default-read_start.ensures, c.new.ensures) (no_start c.if-text-gt16384.false c.in-Some.ensures c.in_default-read_start.ensures)

pub read_lines-requires : goal.read_lines-requires
read_lines-requires c =
    let a = rest_short c.in-Some.ensures in
    let b = rest_short c.in-Some-read_start.ensures.1 in
    omega arith

pub returns : goal.returns
returns c =
    let s = c.in-Some-read_start.symbol in
    let new = c.new.ensures in
    let start : grammar_of c.set_start.new.self ≡ with_start (grammar_of c.new.result.draft) s =
    start_taken (grammar_of c.new.result.draft) s c.set_start.result (grammar_of c.set_start.new.self) c.in-Some-read_start.ensures.0 c.set_start.ensures in
    let from : ◌≡◌ {A = Spelled} (record { draft = grammar_of c.set_start.new.self; spellings = words c.new.result.spellings }) (started s) =
    ap (λ (g : Grammar). record { draft = g; spellings = words c.new.result.spellings }) start
    ∙ ap (λ (x : Spelled). record { draft = with_start x.draft s; spellings = x.spellings }) new in
    from_start c.if-text-gt16384.false c.in-Some.ensures c.in-Some-read_start.ensures.0 c.in-Some-read_start.ensures.1
    (subst (λ (x : Spelled). ReadsFrom 3 x c.in-Some-read_start.body.now c.read_lines.result (model c.read_lines.new.self)) from c.read_lines.ensures)
