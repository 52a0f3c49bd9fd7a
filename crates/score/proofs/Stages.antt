-- The stages of the entries: no two entries share one, and which stages have none.
use Rattle.std.proofs.Common.{◌≡◌, ℕ, ◌+◌, ◌-◌, ◌*◌, ◌<◌, ◌≤◌, List, length, ap, subst, ⊎_elim, arith}
use Rattle.std.proofs.lemmas.Bool.{cases_eq, cases_lt}
use Rattle.grammar.specs.Grammar.{Rule, right_at}
use Rattle.scales.specs.Scales.{Scale}
use Rattle.score.specs.Inputs.{productions_in, words_in, Inside, level_in, stage, stage_in, Given}
use Rattle.score.specs.declared.input.Input.{Input}
use Rattle.score.proofs.Indices.{row_unique}
use Rattle.score.proofs.Levels.{level_small}

-- the parts of a stage are those of no other
digits :
    (a i l p k b m n q r : ℕ) → i < 64 → l < 32 → p < 64 → k < 8 → m < 64 → n < 32 → q < 64 → r < 8 →
    stage a i l p k ≡ stage b m n q r → (a ≡ b) × (i ≡ m) × (l ≡ n) × (p ≡ q) × (k ≡ r)
digits a i l p k b m n q r li ll lp lk lm ln lq lr e =
    let u = row_unique 8 (a * 131072 + i * 2048 + l * 64 + p) k (b * 131072 + m * 2048 + n * 64 + q) r lk lr (omega arith) in
    let e1 = u.0 in
    let v = row_unique 64 (a * 2048 + i * 32 + l) p (b * 2048 + m * 32 + n) q lp lq (omega arith) in
    let e2 = v.0 in
    let w = row_unique 32 (a * 64 + i) l (b * 64 + m) n ll ln (omega arith) in
    let e3 = w.0 in
    let z = row_unique 64 a i b m li lm (omega arith) in
    (z.0, z.1, w.1, v.1, u.1)

module _ {S : Type 0} (s : Scale S) (x : Input) (start : ℕ) (rs : List Rule) (W : ℕ → ℕ → ℕ → ℕ → S) (given : Given s x start rs W) where
  -- the bounds of an entry's parts
  bounds :
      (p k i j : ℕ) → Inside x p k i j →
      (i < 64) × (level_in x p k ≤ 17) × (p < 32) × (k ≤ 6) × (k ≤ length (right_at (productions_in x) p)) × (j ≤ length (words_in x)) × (p < length (productions_in x))
  bounds p k i j h =
      let kp = h.0 in
      let lk = h.1 in
      let li = h.2 in
      let a = x.few in
      let b = x.few_words in
      let c = (given.formed.sides p kp).1 in
      (omega arith, level_small x start rs given.means p k, omega arith, omega arith, lk, h.3, kp)

  -- an entry at a stage has its parts
  pub entry_parts :
      (p k i j a m l q r : ℕ) → Inside x p k i j → m < 64 → l < 32 → q < 64 → r < 8 → stage_in x p k i j ≡ stage a m l q r →
      (j - i ≡ a) × (i ≡ m) × (level_in x p k ≡ l) × (p ≡ q) × (k ≡ r)
  entry_parts p k i j a m l q r h lm ll lq lr e =
      let b = bounds p k i j h in
      digits (j - i) i (level_in x p k) p k a m l q r (omega arith) (omega arith) (omega arith) (omega arith) lm ll lq lr e

  -- two entries at one stage are one
  pub stage_unique :
      (p k i j q r m n : ℕ) → Inside x p k i j → Inside x q r m n → i ≤ j → m ≤ n → stage_in x p k i j ≡ stage_in x q r m n →
      (p ≡ q) × (k ≡ r) × (i ≡ m) × (j ≡ n)
  stage_unique p k i j q r m n h t l o e =
      let b = bounds q r m n t in
      let u = entry_parts p k i j (n - m) m (level_in x q r) q r h (omega arith) (omega arith) (omega arith) (omega arith) e in
      let e0 = u.0 in
      let e1 = u.1 in
      (u.3, u.4, u.1, omega arith)

  -- no entry is at a stage of another level than its own
  pub skip_level :
      (q r a m l : ℕ) → m < 64 → l < 32 → q < 64 → r < 8 → (¬ (level_in x q r ≡ l)) →
      (p k i j : ℕ) → Inside x p k i j → stage_in x p k i j < stage a m l q r + 1 → stage_in x p k i j < stage a m l q r
  skip_level q r a m l lm ll lq lr apart p k i j h less =
      ⊎_elim
      (λ (e : stage_in x p k i j ≡ stage a m l q r).
      let u = entry_parts p k i j a m l q r h lm ll lq lr e in
      absurd (apart (subst (λ z. level_in x z r ≡ l) u.3 (subst (λ z. level_in x p z ≡ l) u.4 u.2))))
      (λ (n : ¬ (stage_in x p k i j ≡ stage a m l q r)). omega (arith, n))
      (cases_eq (stage_in x p k i j) (stage a m l q r))

  -- nor at dots past the right side
  pub skip_dots :
      (q a m l : ℕ) → m < 64 → l < 32 → q < length (productions_in x) →
      (p k i j : ℕ) → Inside x p k i j → stage_in x p k i j < stage a m l (q + 1) 0 → stage_in x p k i j < stage a m l q (length (right_at (productions_in x) q) + 1)
  skip_dots q a m l lm ll lq p k i j h less =
      ⊎_elim (λ (t : stage_in x p k i j < stage a m l q (length (right_at (productions_in x) q) + 1)). t)
      (λ (t : stage a m l q (length (right_at (productions_in x) q) + 1) ≤ stage_in x p k i j).
      let few = x.few in
      let r = stage_in x p k i j - stage a m l q 0 in
      let u = entry_parts p k i j a m l q r h lm ll (omega arith) (omega arith) (omega arith) in
      let e : length (right_at (productions_in x) p) ≡ length (right_at (productions_in x) q) = ap (λ z. length (right_at (productions_in x) z)) u.3 in
      let f = u.4 in
      absurd (omega (arith, h.1)))
      (cases_lt (stage_in x p k i j) (stage a m l q (length (right_at (productions_in x) q) + 1)))

  -- nor at productions past the last
  pub skip_productions :
      (a m l : ℕ) → (p k i j : ℕ) → Inside x p k i j → stage_in x p k i j < stage a m (l + 1) 0 0 →
      stage_in x p k i j < stage a m l (length (productions_in x)) 0
  skip_productions a m l p k i j h less =
      let b = bounds p k i j h in
      let few = x.few in
      ⊎_elim (λ (t : stage_in x p k i j < stage a m l (length (productions_in x)) 0). t)
      (λ (t : stage a m l (length (productions_in x)) 0 ≤ stage_in x p k i j). absurd (omega arith))
      (cases_lt (stage_in x p k i j) (stage a m l (length (productions_in x)) 0))

  -- nor at levels past 17
  pub skip_levels :
      (a m : ℕ) → (p k i j : ℕ) → Inside x p k i j → stage_in x p k i j < stage a (m + 1) 0 0 0 → stage_in x p k i j < stage a m 18 0 0
  skip_levels a m p k i j h less =
      let b = bounds p k i j h in
      ⊎_elim (λ (t : stage_in x p k i j < stage a m 18 0 0). t)
      (λ (t : stage a m 18 0 0 ≤ stage_in x p k i j). absurd (omega arith))
      (cases_lt (stage_in x p k i j) (stage a m 18 0 0))

  -- every entry comes at some stage
  pub all_stages : (p k i j : ℕ) → Inside x p k i j → stage_in x p k i j < stage (length (words_in x) + 1) 0 0 0 0
  all_stages p k i j h = let b = bounds p k i j h in let fw = x.few_words in omega arith
