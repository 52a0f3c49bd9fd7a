use Rattle.std.proofs.Common.{◌≡◌, ℕ, ◌+◌, ◌/◌, ◌%◌, ◌<◌, ◌≤◌, [], ◌∷◌, ◌++◌, decimal, ap, ◌∙◌, arith}
use Rattle.std.proofs.lemmas.Fmt.{decimal_digit, decimal_step}
use Rattle.syntax.proofs.Writes.{writes_same, writes_on, writes_exit}
use Rattle.syntax.proofs.text.TextWriter.+put_number.Goals as goal

digit : (n : ℕ) → n < 10 → decimal n ≡ (48 + n % 10) ∷ []
digit n h = decimal_digit n h ∙ ap (λ d. d ∷ []) (omega arith)

digits : (n : ℕ) → 10 ≤ n → n < 65536 → decimal n ≡ decimal (n / 10) ++ (48 + n % 10) ∷ []
digits n h l = decimal_step n h (omega arith)

pub returns-then-n-lt10 : goal.returns-then-n-lt10
returns-then-n-lt10 t c = writes_same _ _ _ (decimal c.args.n) _ (digit c.args.n (omega arith)) c.put_bytes.ensures

pub returns-in_err-put_number : goal.returns-in_err-put_number
returns-in_err-put_number t c =
    let n = c.args.n in
    writes_exit _ _ c.from_residual.ensures.1 _ _ (decimal (n / 10)) _ (decimal n) (digits n (omega arith) (omega arith)) c.in_err-put_number.ensures

pub returns : goal.returns
returns t c =
    let n = c.args.n in
    writes_on _ _ _ (decimal (n / 10)) ((48 + n % 10) ∷ []) (decimal n) _ (digits n (omega arith) (omega arith)) c.in_ok-put_number.ensures c.put_bytes-2.ensures
