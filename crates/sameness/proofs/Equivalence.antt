-- To be the same is an equivalence, and what it and more productions keep. Assumes nothing.
use mathlib.Core.Path.{refl, sym, ◌∙◌}
use mathlib.Core.List.{List}
use mathlib.Core.Logic.{inl, inr}
use Prim.Native.Nat.{ℕ}
use Rattle.grammar.specs.declared.rule.Relation.{Relation}
use Rattle.grammar.specs.declared.rule.Relation.TheVariants.{Priority, Left, Right, NonAssoc}
use Rattle.grammar.specs.Grammar.{Grammar, Rule, Known}
use Rattle.grammar.specs.Order.{Ruled, Beside, Says}
use Rattle.grammar.specs.Sound.{Apart}
use Rattle.theory.specs.Claims.{Sentence, Viable}
use Rattle.sameness.specs.Sames.{Alike, PricesIn, SaysToo, RulesIn, Same, More}
use Rattle.sameness.specs.Claims.{Sameness, SameReading, MoreReading}
use Rattle.sameness.proofs.Renaming.{alike_trans, pick, renamed, same_words, whole_renamed}

alike_itself : {g : Grammar} {p : ℕ} → Known g p → Alike g p g p
alike_itself k = record { here = k; there = k; lefts = refl; rights = refl }

says : (rs : List Rule) {p q : ℕ} (r : Relation) → Ruled rs p r q → Says rs p r q
says rs Priority m = m
says rs Left m = inl m
says rs Right m = inl m
says rs NonAssoc m = inl m

mirrored : (rs : List Rule) (r : Relation) {p q : ℕ} → Beside rs p r q → Beside rs q r p
mirrored rs r (inl m) = inr m
mirrored rs r (inr m) = inl m

beside_found : (g h : Grammar) (r : Relation) → ((x y : ℕ) → Says h.rules x r y → Beside h.rules x r y) → ((x y : ℕ) → Beside h.rules x r y → Says h.rules x r y) → RulesIn g h → {p q : ℕ} → Beside g.rules p r q → SaysToo g h p r q
beside_found g h r to from rules {p} {q} (inl m) = rules p q r m
beside_found g h r to from rules {p} {q} (inr m) = let s = rules q p r m in (s.1, s.0, s.3, s.2, from s.1 s.0 (mirrored h.rules r (to s.0 s.1 s.4)))

says_found : (g h : Grammar) → RulesIn g h → (r : Relation) {p q : ℕ} → Says g.rules p r q → SaysToo g h p r q
says_found g h rules Priority {p} {q} m = rules p q Priority m
says_found g h rules Left m = beside_found g h Left (λ x y n. n) (λ x y n. n) rules m
says_found g h rules Right m = beside_found g h Right (λ x y n. n) (λ x y n. n) rules m
says_found g h rules NonAssoc m = beside_found g h NonAssoc (λ x y n. n) (λ x y n. n) rules m

rules_onward : (g h k : Grammar) → RulesIn g h → RulesIn h k → RulesIn g k
rules_onward g h k a b p q r m =
    let s = a p q r m in
    let t = says_found h k b r s.4 in
    (t.0, t.1, alike_trans s.2 t.2, alike_trans s.3 t.3, t.4)

prices_onward : {g h k : Grammar} → PricesIn g h → PricesIn h k → PricesIn g k
prices_onward a b p l =
    let r = a p l in
    let t = b r.0 r.1.there in
    (t.0, alike_trans r.1 t.1, r.2 ∙ t.2)

pub turned : (g h : Grammar) → Same g h → Same h g
turned g h s = record { starts = sym s.starts; prices = s.prices_back; prices_back = s.prices; rules = s.rules_back; rules_back = s.rules }

pub same_more : (g h : Grammar) → Same g h → More g h
same_more g h s = record { starts = s.starts; productions = λ p k. let r = s.prices p k in (r.0, r.1); rules_back = s.rules_back }

pub sameness : Sameness
sameness = record {
  itself = λ g formed.
      let prices : PricesIn g g = λ p k. (p, alike_itself k, refl) in
      let rules : RulesIn g g = λ p q r m. let n = formed.named (record { upper = p; relation = r; lower = q }) m in (p, q, alike_itself n.0, alike_itself n.1, says g.rules r m) in
      record { starts = refl; prices = prices; prices_back = prices; rules = rules; rules_back = rules };
  turned = turned;
  onward = λ g h k a b. record {
    starts = a.starts ∙ b.starts;
    prices = prices_onward a.prices b.prices;
    prices_back = prices_onward b.prices_back a.prices_back;
    rules = rules_onward g h k a.rules b.rules;
    rules_back = rules_onward k h g b.rules_back a.rules_back;
  };
  more = same_more;
}

-- what begins in g begins in h
pub viable_more : {g h : Grammar} → Apart g.productions → More g h → (ws : List ℕ) (kind : ℕ) → Viable g ws kind → Viable h ws kind
viable_more apart more ws kind v =
    let ρ = pick more.productions in
    (renamed ρ.0 v.0, v.1, whole_renamed apart more.rules_back ρ.0 ρ.1 more.starts v.2, same_words ρ.0 v.0 ∙ v.3)

sentence_more : {g h : Grammar} → Apart g.productions → More g h → (ws : List ℕ) → Sentence g ws → Sentence h ws
sentence_more apart more ws t =
    let ρ = pick more.productions in
    (renamed ρ.0 t.0, whole_renamed apart more.rules_back ρ.0 ρ.1 more.starts t.1, same_words ρ.0 t.0 ∙ t.2)

pub more_reading : MoreReading
more_reading g h formed more = record { sentences = sentence_more formed.apart more; viables = viable_more formed.apart more }

pub same_reading : SameReading
same_reading g h fg fh same =
    let to = more_reading g h fg (same_more g h same) in
    let back = more_reading h g fh (same_more h g (turned g h same)) in
    record { sentences = λ ws. (to.sentences ws, back.sentences ws); viables = λ ws kind. (to.viables ws kind, back.viables ws kind) }
