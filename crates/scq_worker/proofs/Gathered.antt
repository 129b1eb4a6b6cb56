-- Parts that are gathered and passed on in batches: what is open on each topic, and how many batches there are.
use Rattle.std.proofs.Common.{◌≡◌, refl, sym, ◌∙◌, ap, subst, arith, zero, suc, ℕ, ◌+◌, ◌<◌, ◌≤◌, List, [], ◌∷◌, ◌++◌, length, append_assoc, set, ⊎_elim, inl, inr}
use Rattle.std.specs.Prelude.{count_by, ◌==◌, if◌then◌else◌}
use Rattle.std.specs.List.{All}
use Rattle.std.proofs.lemmas.Bool.{ne_eqb, eq-eqb, cases_eq, cases_lt}
use Rattle.std.proofs.lemmas.Grind.{flat_map-append}
use Rattle.std.proofs.lemmas.List.{append-nil, length-append, map-append, length-set, get_or-set_same, get_or-set_other}
use Rattle.std.proofs.lemmas.List.Elements.{filter-append, All-nil, All-push}
use Rattle.std.proofs.lemmas.List.Sums.{length-filter, sum_by-append}
use Rattle.scq_frames.specs.Exports.{Part, IsEncodable, message_bytes, batch_bytes}
use Rattle.scq_frames.proofs.BatchLemmas.{length-message_bytes}
use Rattle.scq_worker.specs.Exports.{open_on, IsOpen, AreOpen, NoneIsOpen, PartsAreGathered, IsBatch, parts_among, parts_on, AreBatchesOf}
use Rattle.scq_worker.specs.Exports.{FitsBehind, IsOpenBehind, AreOpenBehind}

-- those on their topic are all of them, and on another there are none
on-own : (t : ℕ) (b : List Part) → All (λ p. p.topic ≡ t) b → parts_on t b ≡ b
on-own t [] all = refl
on-own t (p ∷ b) all =
    let here : p.topic ≡ t = all zero p (omega arith) in
    rw (eq-eqb p.topic t here) (ap (λ (l : List Part). p ∷ l) (on-own t b (λ k d less. all (suc k) d (omega (arith, less)))))

on-other : (t u : ℕ) (b : List Part) → All (λ p. p.topic ≡ t) b → (t ≡ u → ⊥) → parts_on u b ≡ []
on-other t u [] all apart = refl
on-other t u (p ∷ b) all apart =
    let here : p.topic ≡ t = all zero p (omega arith) in
    rw (ne_eqb p.topic u (λ e. apart (sym here ∙ e))) (on-other t u b (λ k d less. all (suc k) d (omega (arith, less))) apart)

-- where nothing is open
nil-at : (u : ℕ) → open_on u [] ≡ []
nil-at zero = refl
nil-at (suc u) = refl

-- of one part
one-all : {X : Type 0} (P : X → Type 0) (x : X) → P x → All P (x ∷ [])
one-all P x is = All-push P [] x (All-nil P) is

-- one batch more
among-more : (bs : List (List Part)) (b : List Part) → parts_among (bs ++ b ∷ []) ≡ parts_among bs ++ b
among-more bs b = flat_map-append (λ (batch : List Part). batch) bs (b ∷ []) ∙ ap (λ (l : List Part). parts_among bs ++ l) (append-nil b)

among-on : (u : ℕ) (bs : List (List Part)) (b : List Part) → parts_on u (parts_among (bs ++ b ∷ [])) ≡ parts_on u (parts_among bs) ++ parts_on u b
among-on u bs b = ap (parts_on u) (among-more bs b) ∙ filter-append (λ (p : Part). p.topic == u) (parts_among bs) b

-- how many bytes one part more makes
pub bytes-more : (ps : List Part) (p : Part) → length (batch_bytes (ps ++ p ∷ [])) ≡ length (batch_bytes ps) + 24 + length p.payload
bytes-more ps p =
    let last : batch_bytes (p ∷ []) ≡ message_bytes p = append-nil (message_bytes p) in
    ap length (flat_map-append message_bytes ps (p ∷ []) ∙ ap (λ (l : List ℕ). batch_bytes ps ++ l) last)
    ∙ length-append (batch_bytes ps) (message_bytes p) ∙ ap (λ n. length (batch_bytes ps) + n) (length-message_bytes p) ∙ omega arith

-- a batch has bytes
bytes-some : (ps : List Part) → 0 < length ps → 0 < length (batch_bytes ps)
bytes-some [] some_ = absurd (omega arith)
bytes-some (p ∷ ps) some_ =
    let long = length-append (message_bytes p) (batch_bytes ps) in
    omega (arith, long, length-message_bytes p)

-- nothing is open on a topic
pub open-nothing : (most topic : ℕ) → IsOpen most topic []
open-nothing most topic = record {
  encodable = All-nil IsEncodable;
  file = 0;
  of_file = All-nil (λ (p : Part). p.file ≡ 0);
  on_topic = All-nil (λ (p : Part). p.topic ≡ topic);
  fits = omega arith;
}

-- a part more on a topic, of the file of those that are open there
pub open-more : (most topic : ℕ) (ps : List Part) (p : Part) → IsOpen most topic ps → IsEncodable p → p.topic ≡ topic → All (λ q. q.file ≡ p.file) ps
    → length (batch_bytes ps) + 24 + length p.payload ≤ most → IsOpen most topic (ps ++ p ∷ [])
open-more most topic ps p was encodable on file room = record {
  encodable = All-push IsEncodable ps p was.encodable encodable;
  file = p.file;
  of_file = All-push (λ (q : Part). q.file ≡ p.file) ps p file refl;
  on_topic = All-push (λ (q : Part). q.topic ≡ topic) ps p was.on_topic on;
  fits = omega (arith, room, bytes-more ps p);
}

-- none is open at the start
pub open-none : (most topics : ℕ) (opens : List (List Part)) → opens ≡ [] → AreOpen most topics opens
open-none most topics opens is =
    subst (AreOpen most topics) (sym is)
    (record { few = omega arith; each = λ u. subst (IsOpen most u) (sym (nil-at u)) (open-nothing most u) })

-- but for one, on which it isn't
pub open-closed : (most topics t : ℕ) (opens news : List (List Part)) → AreOpen most topics opens → length news ≤ topics
    → ((u : ℕ) → open_on u news ≡ if u == t then [] else open_on u opens) → AreOpen most topics news
open-closed most topics t opens news was few now = record {
  few = few;
  each = λ u.
      ⊎_elim (λ (own : u ≡ t). subst (IsOpen most u) (sym (now u ∙ rw (eq-eqb u t own) refl)) (open-nothing most u))
      (λ (apart : u ≡ t → ⊥). subst (IsOpen most u) (sym (now u ∙ rw (ne_eqb u t apart) refl)) (was.each u)) (cases_eq u t);
}

-- nothing is open on that one
pub closed-at : (t u : ℕ) (old new : List Part) → new ≡ (if u == t then [] else old) → u ≡ t → new ≡ []
closed-at t u old new now own = now ∙ rw (eq-eqb u t own) refl

-- nor on one where it wasn't
pub closed-still : (t u : ℕ) (old new : List Part) → new ≡ (if u == t then [] else old) → old ≡ [] → new ≡ []
closed-still t u old new now none =
    ⊎_elim (λ (own : u ≡ t). now ∙ rw (eq-eqb u t own) refl) (λ (apart : u ≡ t → ⊥). now ∙ rw (ne_eqb u t apart) none) (cases_eq u t)

-- a part that is open behind others, alone, or not at all
pub open-behind : (most : ℕ) (old : List Part) (p : Part) (new : List Part) → FitsBehind most old p → new ≡ old ++ p ∷ [] → IsOpenBehind most old p new
open-behind most old p new fits now = record {
  behind = λ so. now;
  first = λ full. absurd (full fits);
  alone = λ full. absurd (full (All-nil (λ (q : Part). q.file ≡ p.file), omega (arith, fits.1)));
}

pub open-first : (most : ℕ) (old : List Part) (p : Part) (new : List Part) → (FitsBehind most old p → ⊥) → FitsBehind most [] p → new ≡ p ∷ []
    → IsOpenBehind most old p new
open-first most old p new full fits now = record { behind = λ so. absurd (full so); first = λ so then_. now; alone = λ so. absurd (so fits) }

pub open-alone : (most : ℕ) (old : List Part) (p : Part) (new : List Part) → (FitsBehind most old p → ⊥) → (FitsBehind most [] p → ⊥) → new ≡ []
    → IsOpenBehind most old p new
open-alone most old p new full large now = record { behind = λ so. absurd (full so); first = λ so fits. absurd (large fits); alone = λ so. now }

-- so parts go together
pub fits-some : (most : ℕ) (ps : List Part) (p : Part) → FitsBehind most ps p → 0 < most
fits-some most ps p fits = omega (arith, fits.1)

-- one part more behind those before it
pub behind-more : (most : ℕ) (old ps mid : List Part) (p : Part) (new : List Part) → AreOpenBehind most old ps mid → IsOpenBehind most mid p new
    → AreOpenBehind most old (ps ++ p ∷ []) new
behind-more most old [] mid p new are is = (new, subst (λ (l : List Part). IsOpenBehind most l p new) are is, refl)
behind-more most old (q ∷ ps) mid p new are is = (are.0, are.1, behind-more most are.0 ps mid p new are.2 is)

-- what is open on a topic where it was added to, and on another
pub added-own : (t : ℕ) (old new more : List Part) → new ≡ old ++ (if t == t then more else []) → new ≡ old ++ more
added-own t old new more now = now ∙ rw (eq-eqb t t refl) refl

pub added-other : (t u : ℕ) (old new more : List Part) → new ≡ old ++ (if u == t then more else []) → (u ≡ t → ⊥) → new ≡ old
added-other t u old new more now apart = now ∙ rw (ne_eqb u t apart) (append-nil old)

-- or closed
pub closed-other : (t u : ℕ) (old new : List Part) → new ≡ (if u == t then [] else old) → (u ≡ t → ⊥) → new ≡ old
closed-other t u old new now apart = now ∙ rw (ne_eqb u t apart) refl

module _ (most : ℕ) (parts : List Part) (bs opens : List (List Part)) (was : PartsAreGathered most parts bs opens) where
  -- as much is open
  pub gathered-same : (news : List (List Part)) → ((u : ℕ) → open_on u news ≡ open_on u opens) → PartsAreGathered most parts bs news
  gathered-same news now = record {
    each = was.each;
    same = λ u. was.same u ∙ ap (λ (l : List Part). parts_on u (parts_among bs) ++ l) (sym (now u));
    alone = was.alone;
  }

  pub gathered-none : NoneIsOpen opens → PartsAreGathered most parts bs []
  gathered-none none = gathered-same [] (λ u. nil-at u ∙ sym (none u))

  -- what is open on a topic is passed on
  pub gathered-passed : (t : ℕ) (news : List (List Part)) → IsOpen most t (open_on t opens) → 0 < length (open_on t opens)
      → ((u : ℕ) → open_on u news ≡ if u == t then [] else open_on u opens) → PartsAreGathered most parts (bs ++ open_on t opens ∷ []) news
  gathered-passed t news its some_ now =
      let b : List Part = open_on t opens in
      record {
        each = All-push (IsBatch most) bs b was.each
            (record { some = some_; file = its.file; of_file = its.of_file; topic = t; on_topic = its.on_topic; fits = inr its.fits });
        same = λ u.
            let front : List Part = parts_on u (parts_among bs) in
            let whole : List Part = parts_on u (parts_among (bs ++ b ∷ [])) in
            ⊎_elim (λ (own : u ≡ t).
            let all_of_it : parts_on u b ≡ open_on u opens =
            on-own u b (subst (λ k. All (λ p. p.topic ≡ k) b) (sym own) its.on_topic) ∙ ap (λ k. open_on k opens) (sym own) in
            was.same u ∙ ap (λ (l : List Part). front ++ l) (sym all_of_it) ∙ sym (among-on u bs b) ∙ sym (append-nil whole)
            ∙ ap (λ (l : List Part). whole ++ l) (sym (now u ∙ rw (eq-eqb u t own) refl)))
            (λ (apart : u ≡ t → ⊥).
            let none_of_it : parts_on u b ≡ [] = on-other t u b its.on_topic (λ e. apart (sym e)) in
            let same_front : whole ≡ front = among-on u bs b ∙ ap (λ (l : List Part). front ++ l) none_of_it ∙ append-nil front in
            was.same u ∙ ap (λ (l : List Part). l ++ open_on u opens) (sym same_front)
            ∙ ap (λ (l : List Part). whole ++ l) (sym (now u ∙ rw (ne_eqb u t apart) refl)))
            (cases_eq u t);
        alone = λ none. let some_bytes = bytes-some b some_ in let low = its.fits in absurd (omega (arith, none, some_bytes, low));
      }

  -- a part goes on alone, where nothing is open on its topic
  pub gathered-alone : (p : Part) → open_on p.topic opens ≡ [] → PartsAreGathered most (parts ++ p ∷ []) (bs ++ (p ∷ []) ∷ []) opens
  gathered-alone p none =
      let b : List Part = p ∷ [] in
      record {
        each = All-push (IsBatch most) bs b was.each
            (record {
              some = omega arith;
              file = p.file;
              of_file = one-all (λ (q : Part). q.file ≡ p.file) p refl;
              topic = p.topic;
              on_topic = one-all (λ (q : Part). q.topic ≡ p.topic) p refl;
              fits = inl refl;
            });
        same = λ u.
            let front : List Part = parts_on u (parts_among bs) in
            let whole : List Part = parts_on u (parts_among (bs ++ b ∷ [])) in
            let old : List Part = parts_on u parts in
            let left : parts_on u (parts ++ p ∷ []) ≡ old ++ parts_on u b = filter-append (λ (q : Part). q.topic == u) parts b in
            ⊎_elim (λ (own : p.topic ≡ u).
            let shut : open_on u opens ≡ [] = subst (λ k. open_on k opens ≡ []) own none in
            left ∙ ap (λ (l : List Part). l ++ parts_on u b) (was.same u ∙ ap (λ (l : List Part). front ++ l) shut ∙ append-nil front)
            ∙ sym (among-on u bs b) ∙ sym (append-nil whole) ∙ ap (λ (l : List Part). whole ++ l) (sym shut))
            (λ (apart : p.topic ≡ u → ⊥).
            let none_of_it : parts_on u b ≡ [] = on-other p.topic u b (one-all (λ (q : Part). q.topic ≡ p.topic) p refl) apart in
            let same_front : whole ≡ front = among-on u bs b ∙ ap (λ (l : List Part). front ++ l) none_of_it ∙ append-nil front in
            left ∙ ap (λ (l : List Part). old ++ l) none_of_it ∙ append-nil old ∙ was.same u
            ∙ ap (λ (l : List Part). l ++ open_on u opens) (sym same_front))
            (cases_eq p.topic u);
        alone = λ single.
            ap (λ (l : List (List Part)). l ++ b ∷ []) (was.alone single) ∙ sym (map-append (λ (q : Part). q ∷ []) parts (p ∷ []));
      }

  -- a part is added to those that are open on its topic
  pub gathered-added : (p : Part) (news : List (List Part)) → 0 < most
      → ((u : ℕ) → open_on u news ≡ open_on u opens ++ (if u == p.topic then p ∷ [] else [])) → PartsAreGathered most (parts ++ p ∷ []) bs news
  gathered-added p news many now =
      let b : List Part = p ∷ [] in
      record {
        each = was.each;
        same = λ u.
            let front : List Part = parts_on u (parts_among bs) in
            let left : parts_on u (parts ++ p ∷ []) ≡ parts_on u parts ++ parts_on u b = filter-append (λ (q : Part). q.topic == u) parts b in
            let told : parts_on u b ≡ (if u == p.topic then p ∷ [] else []) =
            ⊎_elim (λ (own : u ≡ p.topic).
            on-own u b (one-all (λ (q : Part). q.topic ≡ u) p (sym own)) ∙ rw (eq-eqb u p.topic own) refl)
            (λ (apart : u ≡ p.topic → ⊥).
            on-other p.topic u b (one-all (λ (q : Part). q.topic ≡ p.topic) p refl) (λ e. apart (sym e)) ∙ rw (ne_eqb u p.topic apart) refl)
            (cases_eq u p.topic) in
            left ∙ ap (λ (l : List Part). l ++ parts_on u b) (was.same u) ∙ append_assoc front (open_on u opens) (parts_on u b)
            ∙ ap (λ (l : List Part). front ++ l) (ap (λ (l : List Part). open_on u opens ++ l) told ∙ sym (now u));
        alone = λ none. absurd (omega (arith, none, many));
      }

-- once nothing is open, all parts are in the batches
pub batches-of : (most : ℕ) (parts : List Part) (bs : List (List Part)) → PartsAreGathered most parts bs [] → AreBatchesOf most parts bs
batches-of most parts bs was = record {
  each = was.each;
  same = λ u.
      was.same u ∙ ap (λ (l : List Part). parts_on u (parts_among bs) ++ l) (nil-at u) ∙ append-nil (parts_on u (parts_among bs));
  alone = was.alone;
}

-- before any part
pub gathered-first : (most : ℕ) → PartsAreGathered most [] [] []
gathered-first most = record { each = All-nil (IsBatch most); same = λ u. sym (nil-at u); alone = λ none. refl }

-- how many are on the first so many topics
abbrev on-first : ℕ → List Part → ℕ
on-first zero xs = 0
on-first (suc n) xs = on-first n xs + count_by (λ (p : Part). p.topic == n) xs

first-out : (n : ℕ) (x : Part) (xs : List Part) → n ≤ x.topic → on-first n (x ∷ xs) ≡ on-first n xs
first-out zero x xs past = refl
first-out (suc n) x xs past =
    let before = first-out n x xs (omega (arith, past)) in
    rw (ne_eqb x.topic n (λ e. omega (arith, past, e))) (omega (arith, before))

first-in : (n : ℕ) (x : Part) (xs : List Part) → x.topic < n → on-first n (x ∷ xs) ≡ on-first n xs + 1
first-in zero x xs low = absurd (omega arith)
first-in (suc n) x xs low =
    let test : Part → _ = λ (p : Part). p.topic == n in
    let all : count_by test (x ∷ xs) ≡ count_by test (x ∷ []) + count_by test xs = sum_by-append _ (x ∷ []) xs in
    ⊎_elim (λ (own : x.topic ≡ n).
    let one : count_by test (x ∷ []) ≡ 1 = rw (eq-eqb x.topic n own) refl in
    let before = first-out n x xs (omega (arith, own)) in
    omega (arith, before, all, one))
    (λ (apart : x.topic ≡ n → ⊥).
    let none : count_by test (x ∷ []) ≡ 0 = rw (ne_eqb x.topic n apart) refl in
    let before = first-in n x xs (below-of x.topic n low apart) in
    omega (arith, before, all, none))
    (cases_eq x.topic n)
  where
    below-of : (a b : ℕ) → a < suc b → (a ≡ b → ⊥) → a < b
    below-of a b low apart = omega (arith, low, apart)

first-few : (n : ℕ) (xs : List Part) → on-first n xs ≤ length xs
first-few n [] = first-nil n where
  first-nil : (n : ℕ) → on-first n [] ≤ 0
  first-nil zero = omega arith
  first-nil (suc n) = let before = first-nil n in omega (arith, before)
first-few n (x ∷ xs) = ⊎_elim (λ (low : x.topic < n). omega (arith, first-in n x xs low, first-few n xs))
    (λ (past : n ≤ x.topic). omega (arith, first-out n x xs past, first-few n xs)) (cases_lt x.topic n)

-- a number above all topics
abbrev above : List Part → ℕ
above [] = 0
above (p ∷ ps) = suc (p.topic + above ps)

first-all : (n : ℕ) (ys : List Part) → above ys ≤ n → on-first n ys ≡ length ys
first-all n [] low = nil-first n where
  nil-first : (n : ℕ) → on-first n [] ≡ 0
  nil-first zero = refl
  nil-first (suc n) = let before = nil-first n in omega (arith, before)
first-all n (y ∷ ys) low = let more = first-all n ys (omega (arith, low)) in omega (arith, first-in n y ys (omega (arith, low)), more)

-- where on each topic there are no fewer, there are no fewer in all
more-on : (n : ℕ) (xs ys : List Part)
    → ((t : ℕ) → count_by (λ (p : Part). p.topic == t) ys ≤ count_by (λ (p : Part). p.topic == t) xs) → on-first n ys ≤ on-first n xs
more-on zero xs ys few = omega arith
more-on (suc n) xs ys few = omega (arith, more-on n xs ys few, few n)

more-in-all : (xs ys : List Part)
    → ((t : ℕ) → count_by (λ (p : Part). p.topic == t) ys ≤ count_by (λ (p : Part). p.topic == t) xs) → length ys ≤ length xs
more-in-all xs ys few =
    let n = above ys in
    omega (arith, more-on n xs ys few, first-all n ys (omega arith), first-few n xs)

-- there are no more batches than parts in them
among-long : (most : ℕ) (bs : List (List Part)) → All (IsBatch most) bs → length bs ≤ length (parts_among bs)
among-long most [] each = omega arith
among-long most (b ∷ bs) each =
    let here : IsBatch most b = each zero b (omega arith) in
    let rest = among-long most bs (λ k d less. each (suc k) d (omega (arith, less))) in
    omega (arith, here.some, rest, length-append b (parts_among bs))

-- so many batches went on, and so many parts are open
counted : (most : ℕ) (parts : List Part) (bs opens : List (List Part)) (more : List Part) → PartsAreGathered most parts bs opens
    → ((u : ℕ) → length (parts_on u more) ≤ length (open_on u opens)) → length bs + length more ≤ length parts
counted most parts bs opens more was few =
    let all = more-in-all parts (parts_among bs ++ more) (λ u.
    let test : Part → _ = λ (p : Part). p.topic == u in
    let left = ap length (was.same u) ∙ length-append (parts_on u (parts_among bs)) (open_on u opens) in
    omega (
      arith,
      few u,
      ap length (filter-append test (parts_among bs) more) ∙ length-append (parts_on u (parts_among bs)) (parts_on u more),
      length-filter test (parts_among bs ++ more),
      length-filter test parts,
      left,
    )) in
    omega (arith, all, length-append (parts_among bs) more, among-long most bs was.each)

-- there are no more batches than parts
pub few-batches : (most : ℕ) (parts : List Part) (bs opens : List (List Part)) → PartsAreGathered most parts bs opens → length bs ≤ length parts
few-batches most parts bs opens was = let all = counted most parts bs opens [] was (λ u. omega arith) in omega (arith, all)

-- nor where what is open on a topic is one more
pub few-with : (most t : ℕ) (parts : List Part) (bs opens : List (List Part)) → PartsAreGathered most parts bs opens → IsOpen most t (open_on t opens)
    → 0 < length (open_on t opens) → length bs + 1 ≤ length parts
few-with most t parts bs opens was its some_ =
    let all = counted most parts bs opens (open_on t opens) was (λ u.
    ⊎_elim (λ (own : u ≡ t).
    let same : parts_on u (open_on t opens) ≡ open_on u opens =
    on-own u (open_on t opens) (subst (λ k. All (λ p. p.topic ≡ k) (open_on t opens)) (sym own) its.on_topic) ∙ ap (λ k. open_on k opens) (sym own) in
    omega (arith, ap length same))
    (λ (apart : u ≡ t → ⊥). omega (arith, ap length (on-other t u (open_on t opens) its.on_topic (λ e. apart (sym e)))))
    (cases_eq u t)) in
    omega (arith, all, some_)

-- the parts of a topic are put among what is open
put-on : (opens : List (List Part)) (t : ℕ) (b : List Part) → t < length opens → (u : ℕ)
    → open_on u (set opens t b) ≡ if u == t then b else open_on u opens
put-on opens t b within u =
    ⊎_elim (λ (own : u ≡ t). ap (λ k. open_on k (set opens t b)) own ∙ get_or-set_same opens t b [] within ∙ sym (rw (eq-eqb u t own) refl))
    (λ (apart : u ≡ t → ⊥). get_or-set_other opens t u b [] apart ∙ sym (rw (ne_eqb u t apart) refl)) (cases_eq u t)

-- the batch of a topic is taken out, and put back with nothing in it
pub set-closed : (opens : List (List Part)) (t : ℕ) (mid b : List Part) → t < length opens → b ≡ [] → (u : ℕ)
    → open_on u (set (set opens t mid) t b) ≡ if u == t then [] else open_on u opens
set-closed opens t mid b within none u =
    put-on (set opens t mid) t b (omega (arith, within, length-set opens t mid)) u
    ∙ ⊎_elim (λ (own : u ≡ t). rw (eq-eqb u t own) none)
    (λ (apart : u ≡ t → ⊥). rw (ne_eqb u t apart) (put-on opens t mid within u ∙ rw (ne_eqb u t apart) refl)) (cases_eq u t)

pub set-few : (opens : List (List Part)) (t n : ℕ) (mid b : List Part) → length opens ≤ n → length (set (set opens t mid) t b) ≤ n
set-few opens t n mid b few = omega (arith, few, length-set (set opens t mid) t b, length-set opens t mid)

-- as much is open in these, each beyond those that were, and the parts of a topic are put among them
module _ (opens begun : List (List Part)) (t : ℕ) (own : List Part) (begins : (u : ℕ) → open_on u begun ≡ open_on u opens)
    (within : t < length begun) (is : own ≡ open_on t opens) where
  pub open-put : (most topics : ℕ) (b : List Part) → AreOpen most topics opens → length begun ≤ topics → IsOpen most t b
      → AreOpen most topics (set begun t b)
  open-put most topics b was few its = record {
    few = omega (arith, few, length-set begun t b);
    each = λ u.
        ⊎_elim (λ (here : u ≡ t). subst (IsOpen most u) (sym (put-on begun t b within u ∙ rw (eq-eqb u t here) refl)) (subst (λ k. IsOpen most k b) (sym here) its))
        (λ (apart : u ≡ t → ⊥). subst (IsOpen most u) (sym (put-on begun t b within u ∙ rw (ne_eqb u t apart) (begins u))) (was.each u)) (cases_eq u t);
  }

  pub put-more : (b more : List Part) → b ≡ own ++ more → (u : ℕ)
      → open_on u (set begun t b) ≡ open_on u opens ++ (if u == t then more else [])
  put-more b more grown u =
      put-on begun t b within u
      ∙ ⊎_elim (λ (here : u ≡ t). rw (eq-eqb u t here) (grown ∙ ap (λ (l : List Part). l ++ more) (is ∙ ap (λ k. open_on k opens) (sym here))))
      (λ (apart : u ≡ t → ⊥). rw (ne_eqb u t apart) (begins u ∙ sym (append-nil (open_on u opens)))) (cases_eq u t)

  pub put-same : (b : List Part) → b ≡ own → (u : ℕ) → open_on u (set begun t b) ≡ open_on u opens
  put-same b same u =
      put-on begun t b within u
      ∙ ⊎_elim (λ (here : u ≡ t). rw (eq-eqb u t here) (same ∙ is ∙ ap (λ k. open_on k opens) (sym here)))
      (λ (apart : u ≡ t → ⊥). rw (ne_eqb u t apart) (begins u)) (cases_eq u t)
