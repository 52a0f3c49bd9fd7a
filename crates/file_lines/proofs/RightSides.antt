-- Reading the right side of a production line symbol by symbol. Assumes nothing.
use Rattle.std.proofs.Common.{◌≡◌, ℕ, zero, suc, ◌-◌, List, [], ◌∷◌, ◌++◌, length, take, drop, decimal, sym, refl, ap, ◌∙◌, arith}
use Rattle.std.proofs.lemmas.List.{append_assoc, append-nil, take_rest}
use Rattle.syntax.specs.Syntax.{Symbol, ValidSymbol, ValidSymbols, symbol_text, spaced, right_parts}
use Rattle.syntax.specs.Free.{FreeOf}
use Rattle.syntax.proofs.Free.{symbol_part, part_no_space}
use Rattle.syntax.proofs.Lines.{before_first, no_first, right_cons, right_nil, no_semicolon}
use Rattle.syntax.proofs.Unique.{symbol_injective}
use Rattle.file_lines.specs.Reading.{SemicolonAt}

-- the rest is what stands behind the symbols, in every reading of the text as a right side
pub record Progress (text rest : List ℕ) (symbols : List Symbol) : Type 0 where
  pub valid : ValidSymbols symbols
  pub joins : (more : List Symbol) (price : ℕ) → rest ≡ spaced (right_parts more price) → text ≡ spaced (right_parts (symbols ++ more) price)
  pub splits :
      (all : List Symbol) (price : ℕ) →
      ValidSymbols all →
      text ≡ spaced (right_parts all price) →
      (more : List Symbol) × ValidSymbols more × (all ≡ symbols ++ more) × (rest ≡ spaced (right_parts more price))

pub progress_none : (text : List ℕ) → Progress text text []
progress_none text = record { valid = tt; joins = λ more price e. e; splits = λ all price v e. (all, v, refl, e) }

valid_push : (ss : List Symbol) (s : Symbol) → ValidSymbols ss → ValidSymbol s → ValidSymbols (ss ++ s ∷ [])
valid_push [] s v h = (h, tt)
valid_push (t ∷ ss) s v h = (v.0, valid_push ss s v.1 h)

module _ (text rest : List ℕ) (ss : List Symbol) (p : Progress text rest ss) where
  -- the rest begins with a symbol, unless it begins with the semicolon
  next :
      (all : List Symbol) (price : ℕ) →
      ValidSymbols all →
      text ≡ spaced (right_parts all price) →
      (¬ SemicolonAt rest 0) →
      (t : Symbol) × (more : List Symbol) × ValidSymbol t × ValidSymbols more × (all ≡ ss ++ t ∷ more) × (rest ≡ symbol_text t ++ 32 ∷ spaced (right_parts more price))
  next all price v e other =
      let s = p.splits all price v e in
      pick s.0 s.1 s.2 s.3
    where
      pick :
          (more : List Symbol) →
          ValidSymbols more →
          all ≡ ss ++ more →
          rest ≡ spaced (right_parts more price) →
          (t : Symbol) × (tail : List Symbol) × ValidSymbol t × ValidSymbols tail × (all ≡ ss ++ t ∷ tail) × (rest ≡ symbol_text t ++ 32 ∷ spaced (right_parts tail price))
      pick [] m a d = absurd (other (decimal price, d ∙ right_nil price))
      pick (t ∷ tail) m a d = (t, tail, m.0, m.1, a, d ∙ right_cons t tail price)

  -- without a space the rest is neither
  pub no_part : FreeOf 32 rest → (¬ SemicolonAt rest 0) → (all : List Symbol) (price : ℕ) → ValidSymbols all → ¬ (text ≡ spaced (right_parts all price))
  no_part free other all price v e =
      let n = next all price v e other in
      no_first 32 rest (symbol_text n.0) (spaced (right_parts n.1 price)) free n.5

  module _ (part behind : List ℕ) (free : FreeOf 32 part) (cut : rest ≡ part ++ 32 ∷ behind) (other : ¬ SemicolonAt rest 0) where
    -- the part up to the next space is that symbol
    pub part_is : (all : List Symbol) (price : ℕ) → ValidSymbols all → text ≡ spaced (right_parts all price) → (t : Symbol) × ValidSymbol t × (part ≡ symbol_text t)
    part_is all price v e =
        let n = next all price v e other in
        let b = before_first 32 part (symbol_text n.0) behind (spaced (right_parts n.1 price)) free (part_no_space (symbol_text n.0) (symbol_part n.0 n.2)) (sym cut ∙ n.5) in
        (n.0, n.2, b.0)

    pub progress_more : (s : Symbol) → ValidSymbol s → part ≡ symbol_text s → Progress text behind (ss ++ s ∷ [])
    progress_more s v e =
        let d : rest ≡ symbol_text s ++ 32 ∷ behind = cut ∙ ap (λ (x : List ℕ). x ++ 32 ∷ behind) e in
        record {
          valid = valid_push ss s p.valid v;
          joins = λ more price m.
              p.joins (s ∷ more) price (d ∙ ap (λ (x : List ℕ). symbol_text s ++ 32 ∷ x) m ∙ sym (right_cons s more price))
              ∙ ap (λ (x : List Symbol). spaced (right_parts x price)) (sym (append_assoc ss (s ∷ []) more));
          splits = λ all price va ea.
              let n = next all price va ea other in
              let b = before_first 32 (symbol_text s) (symbol_text n.0) behind (spaced (right_parts n.1 price)) (part_no_space (symbol_text s) (symbol_part s v)) (part_no_space (symbol_text n.0) (symbol_part n.0 n.2)) (sym d ∙ n.5) in
              (n.1, n.3, n.4 ∙ ap (λ (t : Symbol). ss ++ t ∷ n.1) (sym (symbol_injective s n.0 b.0)) ∙ sym (append_assoc ss (s ∷ []) n.1), b.1);
        }

  -- what stands behind the semicolon and its space
  pub behind_semicolon : (q : SemicolonAt rest 0) → take (length rest - 2) (drop 2 rest) ≡ q.0
  behind_semicolon q = take_rest rest 2 ∙ ap (drop 2) q.1

  pub price_is : (q : SemicolonAt rest 0) (all : List Symbol) (price : ℕ) → ValidSymbols all → text ≡ spaced (right_parts all price) → q.0 ≡ decimal price
  price_is q all price v e =
      let s = p.splits all price v e in
      pick s.0 s.1 s.3
    where
      pick : (more : List Symbol) → ValidSymbols more → rest ≡ spaced (right_parts more price) → q.0 ≡ decimal price
      pick [] m d = tail q.0 (decimal price) (sym q.1 ∙ d ∙ right_nil price)
        where
          tail : (x y : List ℕ) → 59 ∷ 32 ∷ x ≡ 59 ∷ 32 ∷ y → x ≡ y
          tail x y h = cc
      pick (t ∷ more) m d =
          absurd (no_semicolon t (before_first 32 (59 ∷ []) (symbol_text t) q.0 (spaced (right_parts more price)) one_free (part_no_space (symbol_text t) (symbol_part t m.0)) (sym q.1 ∙ d ∙ right_cons t more price)).0)
        where
          one_free : FreeOf 32 (59 ∷ [])
          one_free zero h = λ e. omega arith
          one_free (suc k) h = absurd (omega arith)

  pub whole : (price : ℕ) (q : SemicolonAt rest 0) → q.0 ≡ decimal price → text ≡ spaced (right_parts ss price)
  whole price q e = p.joins [] price (q.1 ∙ ap (λ (x : List ℕ). 59 ∷ 32 ∷ x) e ∙ sym (right_nil price)) ∙ ap (λ (x : List Symbol). spaced (right_parts x price)) (append-nil ss)
