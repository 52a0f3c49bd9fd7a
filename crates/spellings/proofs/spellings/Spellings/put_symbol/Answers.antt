use Rattle.std.proofs.Common.{length, sym, ap, ◌∙◌}
use Rattle.syntax.specs.Syntax.{symbol_text, spelled}
use Rattle.syntax.proofs.Writes.{writes_same}
use Rattle.spellings.specs.Model.{words}
use Rattle.spellings.proofs.Written.{written_nonterminal, written_kind, no_kind}
use Rattle.spellings.proofs.spellings.Spellings.put_symbol.Goals as goal

pub put_letter-requires : goal.put_letter-requires
put_letter-requires c = no_kind c.args.symbol (length (words c.args.self.now)) c.requires c.in-None.ensures

pub returns-in-Some : goal.returns-in-Some
returns-in-Some c =
    let f = c.in-Some.ensures in
    writes_same _ _ _ _ _ (ap symbol_text (written_kind (words c.args.self.now) c.args.symbol f.0 f.1 ∙ ap spelled (sym f.3))) c.put_spelling.ensures

pub returns-in-None : goal.returns-in-None
returns-in-None c =
    let ws = words c.args.self.now in
    let low = no_kind c.args.symbol (length ws) c.requires c.in-None.ensures in
    writes_same _ _ _ _ _ (ap symbol_text (written_nonterminal ws c.args.symbol low)) c.put_letter.ensures
