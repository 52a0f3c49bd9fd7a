-- Kinds that are put one by one.
use Rattle.std.proofs.Common.{◌≡◌, ℕ, ◌+◌, ◌<◌, ◌≤◌, List, [], ◌∷◌, ◌++◌, length, get_or, take, drop, Ok, Err, Result, sym, refl, ap, ◌∙◌, subst, arith}
use Rattle.std.proofs.lemmas.List.{append-nil, append_assoc, length-append, take_more, take-append-drop, drop_more}
use Rattle.grammar.specs.declared.refusals.ReadingRefusal.{ReadingRefusal}
use Rattle.grammar.specs.declared.refusals.ReadingRefusal.TheVariants.{ShortChart}
use Rattle.grammar.specs.Grammar.{Grammar}
use Rattle.theory.specs.Claims.{Sentence, Viable}
use Rattle.theory.proofs.Leaves.{viable_kind}
use Rattle.draft.specs.declared.sealed.Grammar.{Grammar as Sealed}
use Rattle.draft.specs.Sealed.{sealed_model}
use Rattle.reading.specs.declared.reading.Reading.{Reading}
use Rattle.reading.specs.Calls.{Puts}
use Rattle.reading.specs.Readings.{words, cells, grammar_of, Long, Put, Opened}
use Rattle.clients.specs.Lines.{Front, PutAll}
use Rattle.clients.proofs.Calls.{Stands, opened_stands, opened_short, put_cause, never}

-- the words of a sentence are a front
sentence_front : (g : Grammar) (ws : List ℕ) → Sentence g ws → Front g ws
sentence_front g ws s = (s.0, [], s.1, s.2 ∙ sym (append-nil ws))

-- in a front, each word is viable after those before it
front_viable : (g : Grammar) (ws : List ℕ) (kind : ℕ) (vs : List ℕ) → Front g (ws ++ kind ∷ vs) → Viable g ws kind
front_viable g ws kind vs f = (f.0, vs ++ f.1, f.2, f.3 ∙ append_assoc ws (kind ∷ vs) f.1)

-- nothing was put
pub put_none : (r : Reading) → PutAll r [] (Ok tt) r
put_none r = record {
  grammar = refl;
  size = refl;
  short = λ n e h. absurd (never _ _ _ refl h);
  marks = λ l m. m;
  stand = λ l m h. sym (append-nil (words r));
  taken = λ l m f z. refl;
}

err_same : {V : Type 0} (d e : ReadingRefusal) → ◌≡◌ {A = Result V ReadingRefusal} (Err d) (Err e) → d ≡ e
err_same d e h = cc

-- a short chart is short after it
short_stays : (before after : Reading) (kinds : List ℕ) (r : Result (Unit {0}) ReadingRefusal) → PutAll before kinds r after → (¬ Long (cells before)) → ¬ Long (cells after)
short_stays before after kinds r p n l = let z = p.size in n (omega arith)

module _ (before mid after : Reading) (ks : List ℕ) (kind : ℕ) (a : PutAll before ks (Ok tt) mid) where
  same_grammar : grammar_of mid ≡ grammar_of before
  same_grammar = ap sealed_model a.grammar

  long_still : Long (cells before) → Long (cells mid)
  long_still l = let z = a.size in omega arith

  -- one more was put
  put_one_more : (n : ℕ) → Put mid kind (Ok n) after → PutAll before (ks ++ kind ∷ []) (Ok tt) after
  put_one_more n p = record {
    grammar = p.kept.grammar ∙ a.grammar;
    size = p.kept.size ∙ a.size;
    short = λ s e h. absurd (never _ _ _ refl h);
    marks = λ l m. p.marks (long_still l) (a.marks l m);
    stand = λ l m h. (p.answered (long_still l) (a.marks l m)).1.1 ∙ ap (λ ws. ws ++ kind ∷ []) (a.stand l m refl) ∙ append_assoc (words before) ks (kind ∷ []);
    taken = λ l m f z. refl;
  }

  -- the next was refused
  put_stops : (vs : List ℕ) (e : ReadingRefusal) → Put mid kind (Err e) after → PutAll before (ks ++ kind ∷ vs) (Err e) after
  put_stops vs e p = record {
    grammar = p.kept.grammar ∙ a.grammar;
    size = p.kept.size ∙ a.size;
    short = λ s d h. sym (err_same {V = Unit {0}} e d h) ∙ err_same e ShortChart (p.short (short_stays before mid ks (Ok tt) a s));
    marks = λ l m. p.marks (long_still l) (a.marks l m);
    stand = λ l m h. absurd (never _ _ _ refl (sym h));
    taken = λ l m f z.
        let ws = words before ++ ks in
        let asked : Puts (grammar_of before) ws kind (Err e) (words after) = rw (← same_grammar, ← a.stand l m refl) (p.answered (long_still l) (a.marks l m)) in
        let split : words before ++ (ks ++ kind ∷ vs) ≡ ws ++ kind ∷ vs = sym (append_assoc (words before) ks (kind ∷ vs)) in
        let v = front_viable (grammar_of before) ws kind vs (subst (Front (grammar_of before)) split f) in
        let room : length ws < 48 = omega (arith, ap length split, length-append ws (kind ∷ vs)) in
        absurd ((put_cause (grammar_of before) ws kind _ room (viable_kind ws kind v) asked.0).1 v);
  }

-- the loop's step over the kinds
module _ (before mid after : Reading) (kinds : List ℕ) (i : ℕ) (l : i < length kinds) (a : PutAll before (take i kinds) (Ok tt) mid) where
  pub kind_put : (n : ℕ) → Put mid (get_or kinds i 0) (Ok n) after → PutAll before (take (i + 1) kinds) (Ok tt) after
  kind_put n p = subst (λ ks. PutAll before ks (Ok tt) after) (sym (take_more kinds i 0 l)) (put_one_more before mid after (take i kinds) (get_or kinds i 0) a n p)

  pub kind_refused : (e : ReadingRefusal) (r : Result (Unit {0}) ReadingRefusal) → r ≡ Err e → Put mid (get_or kinds i 0) (Err e) after → PutAll before kinds r after
  kind_refused e r h p =
      let split : take i kinds ++ get_or kinds i 0 ∷ drop (i + 1) kinds ≡ kinds = ap (λ ks. take i kinds ++ ks) (sym (drop_more kinds i 0 l)) ∙ take-append-drop i kinds in
      rw h (subst (λ ks. PutAll before ks (Err e) after) split (put_stops before mid after (take i kinds) (get_or kinds i 0) a (drop (i + 1) kinds) e p))

-- kinds that are put to a reading that was opened
module _ (chart : List ℕ) (s : Sealed) (start after : Reading) (o : Opened chart start) (same : start.grammar.now ≡ s) (kinds : List ℕ) where
  standing : words start ++ kinds ≡ kinds
  standing = ap (λ ws. ws ++ kinds) o.none

  -- they stand where all were put
  pub all_stand : PutAll start kinds (Ok tt) after → Long chart → Stands after (sealed_model s) kinds
  all_stand p l =
      let first = opened_stands start chart s (sealed_model s) o same refl l in
      record {
        long = let z = p.size in let y = first.long in omega arith;
        marks = p.marks first.long first.marks;
        grammar = ap sealed_model p.grammar ∙ first.grammar;
        standing = p.stand first.long first.marks refl ∙ standing;
      }

  -- a sentence of at most 48 words is put
  pub all_taken : (r : Result (Unit {0}) ReadingRefusal) → PutAll start kinds r after → Long chart → Sentence (sealed_model s) kinds → length kinds ≤ 48 → r ≡ Ok tt
  all_taken r p l h z =
      let first = opened_stands start chart s (sealed_model s) o same refl l in
      p.taken first.long first.marks (rw (first.grammar, standing) (sentence_front (sealed_model s) kinds h)) (rw standing z)

  -- a short chart stays short, and is the only cause of a refusal
  pub all_short : (r : Result (Unit {0}) ReadingRefusal) → PutAll start kinds r after → (¬ Long chart) → ¬ Long (cells after)
  all_short r p n = short_stays start after kinds r p (opened_short chart start o n)

  pub short_refused : (r : Result (Unit {0}) ReadingRefusal) (e : ReadingRefusal) → PutAll start kinds r after → (¬ Long chart) → r ≡ Err e → e ≡ ShortChart
  short_refused r e p n h = p.short (opened_short chart start o n) e h
