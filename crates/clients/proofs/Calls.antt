-- What a reading's calls answer and leave while the chart marks the standing words.
use Rattle.std.proofs.Common.{◌≡◌, ℕ, ◌+◌, ◌^◌, ◌<◌, Bool, true, false, ◌↔◌, List, [], ◌∷◌, ◌++◌, length, Ok, Err, Result, sym, refl, ap, ◌∙◌, arith}
use Rattle.std.proofs.lemmas.List.{length_push, same_from_push}
use Rattle.grammar.specs.declared.refusals.ReadingRefusal.{ReadingRefusal}
use Rattle.grammar.specs.declared.refusals.ReadingRefusal.TheVariants.{LineFull, NoKind, NothingBegins, NoWord, NoSentence, ShortChart, ShortListing, ShortTable}
use Rattle.grammar.specs.declared.refusals.Refusal.TheVariants.{Reading as Layer}
use Rattle.grammar.specs.Grammar.{Grammar, Kind}
use Rattle.grammar.specs.Refusals.{number}
use Rattle.theory.specs.Claims.{Viable}
use Rattle.draft.specs.declared.sealed.Grammar.{Grammar as Sealed}
use Rattle.draft.specs.Sealed.{sealed_model}
use Rattle.small_grammars.specs.Next.{Next}
use Rattle.small_grammars.proofs.Bits.{same_bits}
use Rattle.reading.specs.declared.reading.Reading.{Reading}
use Rattle.reading.specs.Calls.{Puts, TakesBack, PutCause, line_full, no_kind, nothing_begins, BackCause, no_word}
use Rattle.reading.specs.Readings.{words, cells, grammar_of, Long, Marks, Changes, Put, TakenFromEnd, Looked, Sees, Opened}

-- a reading of g on a long chart that marks the words ws, which stand
pub record Stands (r : Reading) (g : Grammar) (ws : List ℕ) : Type 0 where
  pub long : Long (cells r)
  pub marks : Marks r
  pub grammar : grammar_of r ≡ g
  pub standing : words r ≡ ws

-- a reading that was opened on a long chart
pub opened_stands : (r : Reading) (chart : List ℕ) (s : Sealed) (g : Grammar) → Opened chart r → r.grammar.now ≡ s → sealed_model s ≡ g → Long chart → Stands r g []
opened_stands r chart s g o e m l = record { long = let z = o.size in omega arith; marks = o.marks l; grammar = ap sealed_model e ∙ m; standing = o.none }

-- a kind is refused where there is room only if it isn't viable
pub put_cause : (g : Grammar) (ws : List ℕ) (kind n : ℕ) → length ws < 48 → Kind kind → PutCause g ws kind n → (n ≡ 11) × (¬ Viable g ws kind)
put_cause g ws kind _ l k (line_full h) = absurd (omega arith)
put_cause g ws kind _ l k (no_kind h) = absurd (h k)
put_cause g ws kind _ l k (nothing_begins h) = (refl, h)

-- the refusal of number 11
refused_eleven : (e : ReadingRefusal) → number (Layer e) ≡ 11 → e ≡ NothingBegins
refused_eleven NothingBegins h = refl
refused_eleven LineFull h = absurd (omega arith)
refused_eleven NoKind h = absurd (omega arith)
refused_eleven NoWord h = absurd (omega arith)
refused_eleven NoSentence h = absurd (omega arith)
refused_eleven ShortChart h = absurd (omega arith)
refused_eleven ShortListing h = absurd (omega arith)
refused_eleven ShortTable h = absurd (omega arith)

-- the answers to a kind, by whether it is viable
module _ (g : Grammar) (ws : List ℕ) (kind : ℕ) (after : List ℕ) (l : length ws < 48) (k : Kind kind) where
  puts : (r : Result ℕ ReadingRefusal) → Puts g ws kind r after → Viable g ws kind → (r ≡ Ok (length ws + 1)) × (after ≡ ws ++ kind ∷ [])
  puts (Ok n) a v = (ap Ok (a.1.0 ∙ ap length a.1.1 ∙ length_push ws kind), a.1.1)
  puts (Err e) a v = absurd ((put_cause g ws kind _ l k a.0).1 v)

  puts_none : (r : Result ℕ ReadingRefusal) → Puts g ws kind r after → (¬ Viable g ws kind) → r ≡ Err NothingBegins
  puts_none (Ok n) a v = absurd (a.0 11 (nothing_begins v))
  puts_none (Err e) a v = ap Err (refused_eleven e (put_cause g ws kind _ l k a.0).0)

-- the answer to taking a word back where one stands
backs : (ws : List ℕ) (kind : ℕ) (after : List ℕ) (r : Result ℕ ReadingRefusal) → TakesBack (ws ++ kind ∷ []) r after → (r ≡ Ok (length ws)) × (after ≡ ws)
backs ws kind after (Ok n) a =
    let e = (same_from_push after ws a.1.1.0 kind (sym a.1.1.1)).0 in
    (ap Ok (a.1.0 ∙ ap length e), e)
backs ws kind after (Err e) a = absurd (not_empty _ a.0)
  where
    not_empty : (n : ℕ) → ¬ BackCause (ws ++ kind ∷ []) n
    not_empty _ (no_word h) = omega (arith, ap length h, length_push ws kind)

same_flags : (a b : Bool) → ((a ≡ true) ↔ (b ≡ true)) → a ≡ b
same_flags true true h = refl
same_flags true false h = sym (h.0 refl)
same_flags false true h = h.1 refl
same_flags false false h = refl

-- there is one answer to a look where there is room
sees : (g : Grammar) (ws : List ℕ) (a b : Bool) (m n : ℕ) → Sees g ws a m → Next g ws b n → length ws < 48 → m < 2 ^ 32 → n < 2 ^ 32 → (a ≡ b) × (m ≡ n)
sees g ws a b m n s x l u v = (
  same_flags a b (λ h. x.ends.1 (s.whole.0 h), λ h. s.whole.1 (x.ends.0 h)),
  same_bits m n u v (λ d w. (λ h. (x.kinds d w).1 ((s.next d w).0 h).1, λ h. (s.next d w).1 (l, (x.kinds d w).0 h))),
)

-- what stands after a call that changes the words
changed_stands : (answers : Result ℕ ReadingRefusal → List ℕ → Type 0) (before after : Reading) (g : Grammar) (r : Result ℕ ReadingRefusal) (ws vs : List ℕ) → Changes answers before r after → Stands before g ws → words after ≡ vs → Stands after g vs
changed_stands answers before after g r ws vs p s e = record {
  long = let z = p.kept.size in let l = s.long in omega arith;
  marks = p.marks s.long s.marks;
  grammar = ap sealed_model p.kept.grammar ∙ s.grammar;
  standing = e;
}

module _ (before after : Reading) (g : Grammar) (ws : List ℕ) (kind : ℕ) (r : Result ℕ ReadingRefusal) where
  pub put_stands : Put before kind r after → Stands before g ws → length ws < 48 → Kind kind → Viable g ws kind → (r ≡ Ok (length ws + 1)) × Stands after g (ws ++ kind ∷ [])
  put_stands p s l k v =
      let a : Puts g ws kind r (words after) = rw (← s.grammar, ← s.standing) (p.answered s.long s.marks) in
      let b = puts g ws kind (words after) l k r a v in
      (b.0, changed_stands _ before after g r _ _ p s b.1)

  pub put_refused : Put before kind r after → Stands before g ws → length ws < 48 → Kind kind → (¬ Viable g ws kind) → r ≡ Err NothingBegins
  put_refused p s l k v =
      let a : Puts g ws kind r (words after) = rw (← s.grammar, ← s.standing) (p.answered s.long s.marks) in
      puts_none g ws kind (words after) l k r a v

  pub back_stands : TakenFromEnd before r after → Stands before g (ws ++ kind ∷ []) → (r ≡ Ok (length ws)) × Stands after g ws
  back_stands p s =
      let a : TakesBack (ws ++ kind ∷ []) r (words after) = rw (← s.standing) (p.answered s.long s.marks) in
      let b = backs ws kind (words after) r a in
      (b.0, changed_stands _ before after g r _ _ p s b.1)

-- a look answers what may come next; its mask is a u32
pub look_stands : (r : Reading) (g : Grammar) (ws : List ℕ) (sentence : Bool) (mask : ℕ) (x : Bool × ℕ) → Looked r (Ok x) → Stands r g ws → length ws < 48 → Next g ws sentence mask → mask < 2 ^ 32 → x.1 < 2 ^ 32 → x ≡ (sentence, mask)
look_stands r g ws b n y q s l x v u =
    let a : Sees g ws y.0 y.1 = rw (← s.grammar, ← s.standing) (q.1 s.marks) in
    let e = sees g ws y.0 b y.1 n a x l u v in
    λ i. (e.0 i, e.1 i)

-- no result is both
pub never : {V : Type 0} (r : Result V ReadingRefusal) (v : V) (e : ReadingRefusal) → r ≡ Ok v → r ≡ Err e → ⊥
never r v e p q = let z : ◌≡◌ {A = ℕ} 0 1 = cc in omega arith

-- opening keeps a short chart short
pub opened_short : (chart : List ℕ) (r : Reading) → Opened chart r → (¬ Long chart) → ¬ Long (cells r)
opened_short chart r o n l = let z = o.size in n (omega arith)

-- a kind that is put on the opened chart shows that the chart is long
pub put_long : (chart : List ℕ) (r after : Reading) (kind n : ℕ) → Opened chart r → Put r kind (Ok n) after → ¬ ¬ Long chart
put_long chart r after kind n o p s = never (Ok n) n ShortChart refl (p.short (opened_short chart r o s))
