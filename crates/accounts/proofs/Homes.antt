-- The homes of a watch are what the judged epochs of its trace make of them. Assumes nothing.
use Rattle.std.proofs.Common.{◌≡◌, ℕ, zero, suc, ◌+◌, ◌<◌, ◌≤◌, Bool, true, false, cond, ◌&&◌, eqb, ltb, leb, ◌⊎◌, List, [], ◌∷◌, length, get_or, take, set, replicate, sym, refl, ap, ◌∙◌, subst, ap₂, inl, inr, arith}
use Rattle.std.proofs.lemmas.Bool.{ltb-false, lt-ltb, cases_eq, eq-eqb, ne_eqb, leb-false, lt-leb}
use Rattle.std.proofs.lemmas.List.{get_or-set_same, get_or-set_other, length-set, length-replicate}
use Rattle.semantics.specs.declared.row.Ended.{Ended}
use Rattle.semantics.specs.declared.row.Home.{Home}
use Rattle.semantics.specs.declared.verdict.Verdict.{Verdict}
use Rattle.semantics.specs.Calls.{Call, preset, begin}
use Rattle.semantics.specs.Effect.{Outcome, effect}
use Rattle.semantics.specs.Judging.{judge}
use Rattle.semantics.specs.Laws.{Rule, Precedes, by_rule}
use Rattle.semantics.specs.Limits.{last_place, places}
use Rattle.semantics.specs.Puts.{put_value, marked, put_verdict}
use Rattle.semantics.specs.State.{State, unused, home_of}
use Rattle.semantics.specs.Trace.{Trace, Follows, new, met, if_taken, preset_by, starting}
use Rattle.accounts.specs.Accounts.{Account, Waiting, Judged, Dropped, Entry, Log, is, stand, finished, open_at, owed_under, alter, next, judge_next, judge_many, note, with_epochs, log}
use Rattle.accounts.specs.Deeds.{deed}
use Rattle.accounts.specs.Homes.{home_before, home_after, Lawful, HomesAreTold}
use Rattle.accounts.specs.Lists.{count, one_if, there_is, All}
use Rattle.accounts.proofs.Apart.{apart}
use Rattle.accounts.proofs.Books.{Books}
use Rattle.accounts.proofs.Counting.{all_map, all_always, count_like, count_le, count_push, none_count}
use Rattle.accounts.proofs.Exact.{books}
use Rattle.accounts.proofs.Folding.{unmarked, after_unmarked, after_begun, after_append, after_none, lawful_like, lawful_append}
use Rattle.accounts.proofs.Judging.{ran, Ran, noted, Noted}
use Rattle.accounts.proofs.Moving.{tally, count_alter}
use Rattle.accounts.proofs.Settling.{refused_deed, at_settle, at_settle_break, at_close, at_close_break}
use Rattle.accounts.proofs.Spans.{spanned, judged_span}
use Rattle.accounts.proofs.Steps.{Passes, checked}
use Rattle.accounts.proofs.Ways.{Ways, by_ways}

-- a home of which only the starting value is known
abbrev first : (ℕ → ℕ) → ℕ → Home
first F p = put_value unused (F p)

-- how many epochs have a place that passes a test
abbrev at_places : (ℕ → Bool) → List Entry → ℕ
at_places P es = count (λ e. P e.row.place) es

-- F gives the starting values
record Housed (s : State) (l : Log) (F : ℕ → ℕ) : Type 0 where
  long : length s.homes ≡ places
  homes : (p : ℕ) → p < places → unmarked (home_of s p) ≡ home_after p (first F p) l.judgings
  lawful : Lawful (first F) l.judgings
  placed : at_places (leb places) l.epochs ≡ 0
  begun : (p : ℕ) → p < places → (home_of s p).begun ≡ there_is (λ e. eqb e.row.place p) l.epochs

places_alter : (P : ℕ → Bool) (q : Entry → Bool) (g : Entry → Entry) (es : List Entry) → ((e : Entry) → (g e).row.place ≡ e.row.place) → at_places P (alter q g es) ≡ at_places P es
places_alter P q g es h = count_alter (λ e. P e.row.place) q g es ∙ count_like _ _ es (λ e. by e (q e))
  where
    by : (e : Entry) (b : Bool) → cond b (P (g e).row.place) (P e.row.place) ≡ P e.row.place
    by e true = ap P (h e)
    by e false = refl

places_many : (P : ℕ → Bool) (k : ℕ) (l : Log) → at_places P (judge_many k l).epochs ≡ at_places P l.epochs
places_many P zero l = refl
places_many P (suc k) l = places_many P k (judge_next l) ∙ places_alter P (next l.epochs) (stand Judged) l.epochs (λ _. refl)

tally_places : (a : Account) (P : ℕ → Bool) (es : List Entry) → tally a (λ r. P r.place) es ≤ at_places P es
tally_places a P es = count_le _ _ es (λ e. by (is a e) (P e.row.place))
  where
    by : (x y : Bool) → one_if (x && y) ≤ one_if y
    by true y = omega arith
    by false y = omega arith

-- a place below the bound is not at or above it
small : (p : ℕ) → ltb last_place p ≡ false → p < places
small p h = let a = ltb-false last_place p h in omega arith

module _ (B : Precedes) (s : State) (l : Log) (b : Books s l) (F : ℕ → ℕ) (h : Housed s l F) where
  abbrev Goal : Call → Outcome → Type 0
  Goal c o = Housed o.state (note l (deed c o.answer)) (λ p. if_taken o.answer (preset_by c p (F p)) (F p))

  -- the judged have no more places than the epochs
  judged_places : (P : ℕ → Bool) → at_places P l.epochs ≡ 0 → count (λ r. P r.place) l.judgings ≡ 0
  judged_places P z = let a = b.judgings (λ r. P r.place) in let c = tally_places Judged P l.epochs in omega arith

  -- one home was put
  module _ (p : ℕ) (g : Home) (k : p < places) where
    inside : p < length s.homes
    inside = let c = h.long in omega arith

    by_place : (P : ℕ → Home → Type 0) → P p g → ((q : ℕ) → (q ≡ p → ⊥) → P q (home_of s q)) → (q : ℕ) → P q (get_or (set s.homes p g) q unused)
    by_place P here there q = by (cases_eq q p)
      where
        by : (q ≡ p) ⊎ (q ≡ p → ⊥) → P q (get_or (set s.homes p g) q unused)
        by (inl e) = subst (λ q. P q (get_or (set s.homes p g) q unused)) (sym e) (subst (P p) (sym (get_or-set_same s.homes p g unused inside)) here)
        by (inr n) = subst (P q) (sym (get_or-set_other s.homes p q g unused n)) (there q n)

  at_preset : (p v : ℕ) → Passes s (preset p v) → Goal (preset p v) (effect B s (preset p v))
  at_preset p v f = record {
    long = length-set s.homes p _ ∙ h.long;
    homes = by_place p (put_value (home_of s p) v) k (λ q x. q < places → unmarked x ≡ home_after q (first G q) l.judgings) (λ _. here) there;
    lawful = lawful_like (first F) (first G) l.judgings (all_map l.judgings (λ r z. ap (λ y. put_value unused (cond y v (F r.place))) (sym z)) (none_count (λ r. eqb r.place p) l.judgings none_p)) h.lawful;
    placed = h.placed;
    begun = by_place p (put_value (home_of s p) v) k (λ q x. q < places → x.begun ≡ there_is (λ e. eqb e.row.place q) l.epochs) (h.begun p) (λ q _. h.begun q);
  }
    where
      k : p < places
      k = small p (checked s (preset p v) f).0

      G : ℕ → ℕ
      G q = cond (eqb q p) v (F q)

      none_p : count (λ r. eqb r.place p) l.judgings ≡ 0
      none_p = judged_places (λ q. eqb q p) (let a = ltb-false 0 (at_places (λ q. eqb q p) l.epochs) (sym (h.begun p k) ∙ (checked s (preset p v) f).1.0) in omega arith)

      old : unmarked (home_of s p) ≡ first F p
      old = h.homes p k ∙ after_none p (first F p) l.judgings none_p

      here : unmarked (put_value (home_of s p) v) ≡ home_after p (first G p) l.judgings
      here = ap (λ x. put_value x v) old ∙ ap (λ y. put_value unused (cond y v (F p))) (sym (eq-eqb p p refl)) ∙ sym (after_none p (first G p) l.judgings none_p)

      there : (q : ℕ) → (q ≡ p → ⊥) → q < places → unmarked (home_of s q) ≡ home_after q (first G q) l.judgings
      there q n i = h.homes q i ∙ ap (λ y. home_after q (put_value unused (cond y v (F q))) l.judgings) (sym (ne_eqb q p n))

  at_begin : (t k p v τ : ℕ) → Passes s (begin t k p v τ) → Goal (begin t k p v τ) (effect B s (begin t k p v τ))
  at_begin t k p v τ f = record {
    long = length-set s.homes p _ ∙ h.long;
    homes = by_place p (marked (home_of s p)) i (λ q x. q < places → unmarked x ≡ home_after q (first F q) l.judgings) (h.homes p) (λ q _. h.homes q);
    lawful = h.lawful;
    placed = count_push (λ e. leb places e.row.place) l.epochs _ ∙ ap₂ ◌+◌ h.placed (ap one_if (lt-leb places p i));
    begun = λ q j. by_place p (marked (home_of s p)) i (λ q x. q < places → x.begun ≡ ltb 0 (at_places (λ x. eqb x q) l.epochs + one_if (eqb p q))) (λ _. here) there q j ∙ ap (ltb 0) (sym (count_push (λ e. eqb e.row.place q) l.epochs _));
  }
    where
      i : p < places
      i = small p (checked s (begin t k p v τ) f).1.1.0

      here : true ≡ ltb 0 (at_places (λ x. eqb x p) l.epochs + one_if (eqb p p))
      here = sym (lt-ltb 0 (at_places (λ x. eqb x p) l.epochs + one_if (eqb p p)) (let a = ap one_if (eq-eqb p p refl) in omega arith))

      there : (q : ℕ) → (q ≡ p → ⊥) → q < places → (home_of s q).begun ≡ ltb 0 (at_places (λ x. eqb x q) l.epochs + one_if (eqb p q))
      there q n j = h.begun q j ∙ ap (ltb 0) (let a = ap one_if (ne_eqb p q (λ e. n (sym e))) in let g : at_places (λ x. eqb x q) l.epochs ≡ at_places (λ x. eqb x q) l.epochs + one_if (eqb p q) = omega arith in g)

  -- judging, under whatever verdict
  judged_house : (due : Ended → Bool) (v : Verdict) → Housed (put_verdict (judge due s s.waiting 0).state v) (judge_many (ran due s s.waiting 0).m l) F
  judged_house due v = record {
    long = r.homes_long ∙ h.long;
    homes = λ p k. ap unmarked (r.homes within p) ∙ after_unmarked p (home_of s p) (take m s.waiting) ∙ ap (λ x. home_after p x (take m s.waiting)) (h.homes p k)
        ∙ sym (after_append p (first F p) l.judgings (take m s.waiting)) ∙ ap (home_after p (first F p)) (sym n.judgings);
    lawful = subst (Lawful (first F)) (sym n.judgings) (lawful_append (first F) l.judgings (take m s.waiting) h.lawful
        (lawful_like (home_of s) (λ p. home_after p (first F p) l.judgings) (take m s.waiting) (takes m s.waiting within) (r.lawful within)));
    placed = places_many (leb places) m l ∙ h.placed;
    begun = λ p k. ap (λ x. x.begun) (r.homes within p) ∙ after_begun p (home_of s p) (take m s.waiting) ∙ h.begun p k ∙ ap (ltb 0) (sym (places_many (λ q. eqb q p) m l));
  }
    where
      r : Ran due s s.waiting 0 (judge due s s.waiting 0)
      r = ran due s s.waiting 0

      m : ℕ
      m = r.m

      n : Noted s.waiting l (judge_many m l) m
      n = noted s.waiting l m r.fits b.queue b.waiting

      within : All (λ e. e.place < length s.homes) s.waiting
      within = all_map s.waiting (λ e z. let a = leb-false places e.place z in let c = h.long in omega arith)
          (none_count (λ e. leb places e.place) s.waiting (let a = b.waiting (λ r. leb places r.place) in let c = tally_places Waiting (leb places) l.epochs in let d = h.placed in omega arith))

      takes : (k : ℕ) (es : List Ended) → All (λ e. e.place < length s.homes) es → All (λ e. unmarked (home_of s e.place) ≡ unmarked (home_after e.place (first F e.place) l.judgings)) (take k es)
      takes zero es a = tt
      takes (suc k) [] a = tt
      takes (suc k) (e ∷ es) a =
          (h.homes e.place (let c = h.long in let d = a.0 in omega arith) ∙ sym (after_unmarked e.place (first F e.place) l.judgings), takes k es a.1)

  -- a call that leaves the homes as they are, and judges nothing
  kept_house : (s' : State) (es : List Entry) → s'.homes ≡ s.homes → ((P : ℕ → Bool) → at_places P es ≡ at_places P l.epochs) → Housed s' (with_epochs l es) F
  kept_house s' es hs ps = record {
    long = ap length hs ∙ h.long;
    homes = λ p k. ap (λ x. unmarked (get_or x p unused)) hs ∙ h.homes p k;
    lawful = h.lawful;
    placed = ps (leb places) ∙ h.placed;
    begun = λ p k. ap (λ x. (get_or x p unused).begun) hs ∙ h.begun p k ∙ ap (ltb 0) (sym (ps (λ q. eqb q p)));
  }

  ways : Ways B s Goal
  ways = record {
    refuses = λ c r. subst (λ d. Housed s (note l d) F) (sym (refused_deed c r)) h;
    presets = at_preset;
    commits = λ _ _ _ _ _. kept_house _ l.epochs refl (λ _. refl);
    advances = λ _ _ _. kept_house _ l.epochs refl (λ _. refl);
    begins = at_begin;
    performs = λ _ _ _ _ _ _ _. kept_house _ l.epochs refl (λ _. refl);
    perform_breaks = λ _ _ _ _. kept_house _ l.epochs refl (λ _. refl);
    ends = λ t p v τ _ _ _ _. kept_house _ _ refl (λ P. places_alter P (open_at t p) (finished s.ends v τ) l.epochs (λ _. refl));
    end_breaks = λ _ _ _ _ _. kept_house _ l.epochs refl (λ _. refl);
    reports = λ n _ _. kept_house _ _ refl (λ P. places_alter P (owed_under n) (stand Waiting) l.epochs (λ _. refl));
    drop_breaks = λ n _ _ _. kept_house _ _ refl (λ P. places_alter P (owed_under n) (stand Dropped) l.epochs (λ _. refl));
    drops_later = λ n _ _ _ _. kept_house _ _ refl (λ P. places_alter P (owed_under n) (stand Dropped) l.epochs (λ _. refl));
    settles = at_settle s l b (λ _ s' l'. Housed s' l' F) (λ due v _ _. judged_house due v);
    settle_breaks = at_settle_break s l b (λ _ s' l'. Housed s' l' F) (λ due v _ _. judged_house due v);
    closes = at_close s l b (λ _ s' l'. Housed s' l' F) (λ due v _ _. judged_house due v);
    close_breaks = at_close_break s l b (λ _ s' l'. Housed s' l' F) (λ due v _ _. judged_house due v);
  }

unused_at : (n p : ℕ) → get_or (replicate n unused) p unused ≡ unused
unused_at zero p = refl
unused_at (suc n) zero = refl
unused_at (suc n) (suc p) = unused_at n p

housed : (R : Rule) (n : ℕ) {tr : Trace} {s : State} → Follows R n tr s → Housed s (log tr) (starting tr)
housed R n new = record { long = length-replicate places unused; homes = λ p _. ap unmarked (unused_at places p); lawful = tt; placed = refl; begun = λ p _. ap (λ x. x.begun) (unused_at places p) }
housed R n (met {tr = tr} {s = s} r c) = by_ways (by_rule R) s (Goal (by_rule R) s (log tr) (books R n r) (starting tr) (housed R n r)) (ways (by_rule R) s (log tr) (books R n r) (starting tr) (housed R n r)) c

-- a home is what it is but for the mark, and the mark
whole : (g k : Home) → unmarked g ≡ unmarked k → g.begun ≡ k.begun → g ≡ k
whole g k a b = λ i. record { value = (a i).value; read_end = (a i).read_end; write_end = (a i).write_end; begun = b i }

pub homes_are_told : HomesAreTold
homes_are_told R n tr s r =
    let h = housed R n r in
    let js = (log tr).judgings in
    let lawful = lawful_like (first (starting tr)) (home_before tr) js (all_always js (λ _. refl)) h.lawful in
    let spans = judged_span s (log tr) (books R n r) (spanned R n r) in
    record {
      homes = λ p k. whole (home_of s p) (home_after p (home_before tr p) js) (h.homes p k ∙ sym (after_unmarked p (home_before tr p) js)) (h.begun p k ∙ sym (after_begun p (home_before tr p) js));
      lawful = lawful;
      spans = spans;
      apart = apart (home_before tr) js lawful spans;
    }
