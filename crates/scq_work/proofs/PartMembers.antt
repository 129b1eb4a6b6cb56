-- The members of all lists, against the parts of the messages: the answer to each part is a member's, and each member's is that to a part.
use Rattle.std.proofs.Common.{◌≡◌, refl, sym, ◌∙◌, ap, subst, arith, ℕ, ◌+◌, ◌-◌, ◌*◌, ◌<◌, ◌≤◌, List, [], ◌∷◌, length, map, drop, get_or, ⊎_elim}
use Rattle.std.specs.List.{All, Contains}
use Rattle.std.specs.List.Sorted.{IsPermutation}
use Rattle.std.proofs.lemmas.List.{length-map, length-take, get_or-map}
use Rattle.std.proofs.lemmas.List.Elements.{All-contains, Contains-get_or}
use Rattle.std.proofs.lemmas.List.FromFn.{length-map-range_with_len, get_or-map-range_with_len}
use Rattle.std.proofs.lemmas.List.Sorted.{IsPermutation-sym, Contains-permutation}
use Rattle.scq_topics.specs.declared.kind.Kind.{Kind}
use Rattle.scq_frames.specs.declared.message.Message.{Message}
use Rattle.scq_frames.specs.Exports.{Part, IsNumbered, all_parts, part_of, parts_of}
use Rattle.scq_collect.specs.declared.answered.Answered.{Answered}
use Rattle.scq_collect.specs.Exports.{PartAnswer, part_answer, part_answers, without_way, IsBefore}
use Rattle.scq_collect.proofs.Orders.{Ascends, contains-cases, contains-first, contains-more, not-before-itself}
use Rattle.scq_worker.specs.Exports.{parts_in}
use Rattle.scq_passes.proofs.ManyLists.{found-at, stands-at, from-all, in-all}

-- what stands in a mapped list
contains-map : {X Y : Type 0} (f : X → Y) (xs : List X) (x : X) → Contains xs x → Contains (map f xs) (f x)
contains-map f xs x (k, within, is) = (k, omega (arith, within, length-map xs f), get_or-map f xs k x (f x) within ∙ ap f is)

map-contains : {X Y : Type 0} (f : X → Y) (xs : List X) (y : Y) → Contains (map f xs) y → (x : X) × Contains xs x × (f x ≡ y)
map-contains f [] y has = absurd (omega (arith, has.1))
map-contains f (x ∷ xs) y has =
    ⊎_elim (λ (e : f x ≡ y). (x, contains-first x xs, e))
    (λ (h : Contains (map f xs) y). let more = map-contains f xs y h in (more.0, contains-more x more.0 xs more.1, more.2))
    (contains-cases (f x) y (map f xs) has)

-- the parts of a message, by their numbers
pub has-part : (size : ℕ) (m : Message) (part : ℕ) → IsNumbered part (parts_of size m.payload) → Contains (all_parts size m) (part_of size m part)
has-part size m part numbered =
    let count = parts_of size m.payload in
    let low : part - 1 < count = omega (arith, numbered.first, numbered.last) in
    let long = length-map-range_with_len (part_of size m) 1 count in
    let at : 1 + (part - 1) ≡ part = omega (arith, numbered.first) in
    (part - 1, omega (arith, low, long), get_or-map-range_with_len (part_of size m) 1 count (part - 1) part (part_of size m part) low at)

part-at : (size : ℕ) (m : Message) (p : Part) → Contains (all_parts size m) p
    → (part : ℕ) × IsNumbered part (parts_of size m.payload) × (part_of size m part ≡ p)
part-at size m p (k, within, is) =
    let count = parts_of size m.payload in
    let long = length-map-range_with_len (part_of size m) 1 count in
    let low : k < count = omega (arith, within, long) in (
      1 + k,
      record { first = omega arith; last = omega (arith, low) },
      sym (get_or-map-range_with_len (part_of size m) 1 count k (1 + k) p low refl) ∙ is,
    )

-- of parts that ascend no two have one place
pub same-place : {A : Type 0} (place : A → ℕ × ℕ × ℕ) (xs : List A) (x y : A) → Ascends place xs → Contains xs x → Contains xs y → place x ≡ place y → x ≡ y
same-place place [] x y up has has' alike = absurd (omega (arith, has.1))
same-place {A} place (z ∷ zs) x y up has has' alike =
    ⊎_elim
    (λ (e : z ≡ x).
    ⊎_elim (λ (f : z ≡ y). sym e ∙ f)
    (λ (h : Contains zs y).
    let before : IsBefore (place z) (place y) = All-contains (λ (a : A). IsBefore (place z) (place a)) zs y up.0 h in
    absurd (not-before-itself (place z) (subst (IsBefore (place z)) (sym alike ∙ ap place (sym e)) before)))
    (contains-cases z y zs has'))
    (λ (h : Contains zs x).
    ⊎_elim
    (λ (f : z ≡ y).
    let before : IsBefore (place z) (place x) = All-contains (λ (a : A). IsBefore (place z) (place a)) zs x up.0 h in
    absurd (not-before-itself (place z) (subst (IsBefore (place z)) (alike ∙ ap place (sym f)) before)))
    (λ (h' : Contains zs y). same-place place zs x y up.1 h h' alike) (contains-cases z y zs has'))
    (contains-cases z x zs has)

-- a member answers this part of this message
pub record IsPartOf (topics : List (List ℕ × Kind)) (size : ℕ) (ms : List Message) (a : Answered) : Type 0 where
  pub message : Message
  pub stands : Contains ms message
  pub part : ℕ
  pub numbered : IsNumbered part (parts_of size message.payload)
  pub is : part_answer topics (part_of size message part) ≡ without_way a

module _ (topics : List (List ℕ × Kind)) (size : ℕ) (ms : List Message) (members : List Answered)
    (same : IsPermutation (map without_way members) (part_answers topics size ms)) where
  -- each member answers a part
  pub part-of-member : (a : Answered) → Contains members a → IsPartOf topics size ms a
  part-of-member a has =
      let answer = map-contains (part_answer topics) (parts_in size ms) (without_way a)
      (Contains-permutation (map without_way members) (part_answers topics size ms) (without_way a) same (contains-map without_way members a has)) in
      let of = from-all (all_parts size) ms answer.0 answer.1 in
      let numbered = part-at size of.1 answer.0 of.3 in
      record {
        message = of.1;
        stands = stands-at ms of.1 of.0 of.2;
        part = numbered.0;
        numbered = numbered.1;
        is = ap (part_answer topics) numbered.2 ∙ answer.2;
      }

  -- and each part is answered
  pub member-of-part : (m : Message) (part : ℕ) → Contains ms m → IsNumbered part (parts_of size m.payload)
      → (b : Answered) × Contains members b × (without_way b ≡ part_answer topics (part_of size m part))
  member-of-part m part stands numbered =
      let at = found-at ms m stands in
      let has : Contains (parts_in size ms) (part_of size m part) =
      in-all (all_parts size) ms at.0 m (part_of size m part) at.1 (has-part size m part numbered) in
      map-contains without_way members (part_answer topics (part_of size m part))
      (Contains-permutation (part_answers topics size ms) (map without_way members) (part_answer topics (part_of size m part))
      (IsPermutation-sym (map without_way members) (part_answers topics size ms) same)
      (contains-map (part_answer topics) (parts_in size ms) (part_of size m part) has))

  -- they are on known topics, and of short parts
  pub members-known : All (λ m. m.topic ≤ length topics) ms → All (λ a. a.topic ≤ length topics) members
  members-known known k d less =
      let its = part-of-member (get_or members k d) (Contains-get_or members k d less) in
      let low : its.message.topic ≤ length topics = All-contains (λ (m : Message). m.topic ≤ length topics) ms its.message known its.stands in
      subst (λ (a : PartAnswer). a.topic ≤ length topics) its.is low

  pub members-short : All (λ a. a.bytes ≤ size) members
  members-short k d less =
      let its = part-of-member (get_or members k d) (Contains-get_or members k d less) in
      let low : length (part_of size its.message its.part).payload ≤ size =
      omega (arith, length-take size (drop ((its.part - 1) * size) its.message.payload)) in
      subst (λ (a : PartAnswer). a.bytes ≤ size) its.is low
