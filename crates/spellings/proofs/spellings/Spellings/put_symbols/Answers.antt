use Rattle.std.proofs.Common.{[], ◌∷◌, get_or, Ok, Err, refl}
use Rattle.syntax.specs.Syntax.{symbol_text}
use Rattle.syntax.proofs.Writes.{writes_then, writes_stop}
use Rattle.file_model.specs.Spelled.{written}
use Rattle.spellings.specs.Model.{words}
use Rattle.spellings.specs.Writing.{symbol_part}
use Rattle.file_lines.proofs.Written.{writes_none, turned, stopped}
use Rattle.spellings.proofs.spellings.Spellings.put_symbols.Goals as goal

pub loop-symbol-init : goal.loop-symbol-init
loop-symbol-init c = writes_none c.args.out.now

pub returns-in_err-put_symbol : goal.returns-in_err-put_symbol
returns-in_err-put_symbol c =
    let right = c.args.right.now in
    let i = c.loop-symbol.symbol-index in
    let ws = words c.args.self.now in
    stopped (written ws) symbol_part right c.args.out.now _ _ c.from_residual.ensures.1 c.loop-symbol.out c.put_symbol.new.out i 0 (get_or right i 0) c.loop-symbol-test.true refl
    c.loop-symbol.invariant
    (writes_stop c.loop-symbol.out c.put_symbol.new.out (symbol_text (written ws (get_or right i 0))) (32 ∷ []) _ c.in_err-put_symbol.ensures)

pub returns-in_err-put_bytes : goal.returns-in_err-put_bytes
returns-in_err-put_bytes c =
    let right = c.args.right.now in
    let i = c.loop-symbol.symbol-index in
    let ws = words c.args.self.now in
    stopped (written ws) symbol_part right c.args.out.now _ _ c.from_residual-in_err-put_bytes.ensures.1 c.loop-symbol.out c.put_bytes.new.self i 0 (get_or right i 0) c.loop-symbol-test.true refl
    c.loop-symbol.invariant
    (writes_then c.loop-symbol.out c.put_symbol.new.out c.put_bytes.new.self (symbol_text (written ws (get_or right i 0))) (32 ∷ []) (Err _) c.in_ok-put_symbol.ensures c.in_err-put_bytes.ensures)

pub loop-symbol-preserved : goal.loop-symbol-preserved
loop-symbol-preserved c =
    let right = c.args.right.now in
    let i = c.loop-symbol.symbol-index in
    let ws = words c.args.self.now in
    turned (written ws) symbol_part right c.args.out.now c.loop-symbol.out c.put_bytes.new.self i 0 (get_or right i 0) (Ok tt) c.loop-symbol-test.true refl
    c.loop-symbol.invariant
    (writes_then c.loop-symbol.out c.put_symbol.new.out c.put_bytes.new.self (symbol_text (written ws (get_or right i 0))) (32 ∷ []) (Ok tt) c.in_ok-put_symbol.ensures c.in_ok-put_bytes.ensures)
