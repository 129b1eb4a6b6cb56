-- Desks whose files were dealt or taken off have the workers that they had; and what is held at all desks together.
use Rattle.std.proofs.Common.{◌≡◌, refl, sym, ◌∙◌, ap, subst, arith, zero, suc, ℕ, ◌+◌, ◌<◌, List, [], ◌∷◌, length, map, get_or, Option, Some, None}
use Rattle.std.specs.Prelude.{slice_index_or, flat_map, sum_by, IfSome, IsSome, IsSomeAnd}
use Rattle.std.specs.List.{All}
use Rattle.std.specs.Option.{option_to_list}
use Rattle.std.proofs.lemmas.List.{length-map, get_or-map, map-append}
use Rattle.std.proofs.lemmas.List.Elements.{All-map, All-nil, All-cons, All-head, All-tail, All-append}
use Rattle.std.proofs.lemmas.List.Folds.{flat_map-map}
use Rattle.std.proofs.lemmas.List.Sums.{sum_by-cons}
use Rattle.std.proofs.lemmas.Option.{slice_get_within, get_or_from_slice_get}
use Rattle.scq_law.specs.Exports.{times}
use Rattle.scq_band.specs.Exports.{Identity}
use Rattle.scq_band.proofs.Slots.{times-append}
use Rattle.scq_queue.specs.Exports.{AreTheHeld, PassStanding, HeldStanding, first_pass, first_passes}
use Rattle.scq_files.specs.Exports.{workers_at}
use Rattle.scq_files.specs.declared.desk.Desk.{Desk}
use Rattle.scq_files.proofs.Lists.{map-map}
use Rattle.scq_passes.specs.Exports.{index_of, NoneSpent}
use Rattle.scq_passes.proofs.FirstPasses.{first-length, first-at}
use Rattle.scq_desk.specs.declared.seat.Seat.{Seat}

module _ {W B Place S : Type 0} where
  abbrev seat_at : Desk (Seat W B Place) S → Seat W B Place
  seat_at d = d.worker

  -- the values that are kept at desks
  abbrev pub held_at : List (Desk (Seat W B Place) S) → List (HeldStanding B)
  held_at desks = flat_map (λ (d : Desk (Seat W B Place) S). option_to_list d.worker.kept) desks

  -- what is shown of the workers at desks
  pub same-shown : {X : Type 0} (f : Seat W B Place → X) (new old : List (Desk (Seat W B Place) S)) → workers_at new ≡ workers_at old
      → map (λ (d : Desk (Seat W B Place) S). f d.worker) new ≡ map (λ (d : Desk (Seat W B Place) S). f d.worker) old
  same-shown f new old same = sym (map-map f seat_at new) ∙ ap (map f) same ∙ map-map f seat_at old

  pub same-held : (new old : List (Desk (Seat W B Place) S)) → workers_at new ≡ workers_at old → held_at new ≡ held_at old
  same-held new old same =
      let f : Seat W B Place → List (HeldStanding B) = λ s. option_to_list s.kept in
      sym (flat_map-map f seat_at new) ∙ ap (flat_map f) same ∙ flat_map-map f seat_at old

  -- what holds of them
  pub all-same : (P : Seat W B Place → Type 0) (new old : List (Desk (Seat W B Place) S)) → workers_at new ≡ workers_at old → All (λ d. P d.worker) new
      → All (λ d. P d.worker) old
  all-same P new old same each k d less =
      let all : All P (workers_at old) = subst (All P) same (All-map P seat_at new each) in
      subst P (get_or-map seat_at old k d d.worker less) (all k d.worker (omega (arith, less, length-map old seat_at)))

  module _ (pass_of : W → PassStanding B) where
    abbrev pub pass_at : Desk (Seat W B Place) S → PassStanding B
    pass_at d = pass_of d.worker.worker

    -- the passes of a queue have the numbers of their places
    pub place-numbers : (shared : Identity B) (n : ℕ) (desks : List (Desk (Seat W B Place) S)) → map pass_at desks ≡ first_passes shared n → (w : ℕ)
        (d : Desk (Seat W B Place) S)
        → w < length desks
        → (pass_at (slice_index_or desks w d)).number ≡ w
    place-numbers shared n desks are w d less =
        let within : w < n = omega (arith, less, length-map desks pass_at, ap length are, first-length shared n) in
        let is : pass_at (get_or desks w d) ≡ first_pass shared w =
        sym (get_or-map pass_at desks w d (pass_at d) less) ∙ ap (λ l. get_or l w (pass_at d)) are ∙ first-at shared n w (pass_at d) within in
        ap (λ (p : PassStanding B). p.number) is

    -- the values that are kept at the desks are those that the passes hold
    held-own : (shared : Identity B) (desks : List (Desk (Seat W B Place) S)) → All (λ d. IfSome d.worker.kept (λ h. h.queue ≡ shared)) desks
        → All (λ h. h.queue ≡ shared) (held_at desks)
    held-own shared [] each = All-nil (λ (h : HeldStanding B). h.queue ≡ shared)
    held-own shared (d ∷ ds) each =
        All-append (λ (h : HeldStanding B). h.queue ≡ shared) (option_to_list d.worker.kept) (held_at ds) (one d.worker.kept (each zero d (omega arith)))
        (held-own shared ds (λ k e less. each (suc k) e (omega arith)))
      where
        one : (o : Option (HeldStanding B)) → IfSome o (λ h. h.queue ≡ shared) → All (λ h. h.queue ≡ shared) (option_to_list o)
        one None is = All-nil (λ (h : HeldStanding B). h.queue ≡ shared)
        one (Some h) is = All-cons (λ (h : HeldStanding B). h.queue ≡ shared) h [] is (All-nil (λ (h : HeldStanding B). h.queue ≡ shared))

    held-times : (i : ℕ) (desks : List (Desk (Seat W B Place) S)) → All (λ d. (pass_at d).held ≡ index_of d.worker.kept) desks
        → times i (map (λ (h : HeldStanding B). h.index) (held_at desks)) ≡ sum_by (λ (p : PassStanding B). times i p.held) (map pass_at desks)
    held-times i [] each = refl
    held-times i (d ∷ ds) each =
        let index : HeldStanding B → ℕ = λ h. h.index in
        let here : (pass_at d).held ≡ index_of d.worker.kept = each zero d (omega arith) in
        let rest = held-times i ds (λ k e less. each (suc k) e (omega arith)) in
        ap (times i) (map-append index (option_to_list d.worker.kept) (held_at ds))
        ∙ times-append i (map index (option_to_list d.worker.kept)) (map index (held_at ds))
        ∙ ap (λ l. times i l + times i (map index (held_at ds))) (one d.worker.kept ∙ sym here) ∙ ap (λ n. times i (pass_at d).held + n) rest
        ∙ sym (sum_by-cons (λ (p : PassStanding B). times i p.held) (pass_at d) (map pass_at ds))
      where
        one : (o : Option (HeldStanding B)) → map (λ (h : HeldStanding B). h.index) (option_to_list o) ≡ index_of o
        one None = refl
        one (Some h) = refl

    pub are-held : (shared : Identity B) (desks : List (Desk (Seat W B Place) S)) → All (λ d. IfSome d.worker.kept (λ h. h.queue ≡ shared)) desks
        → All (λ d. (pass_at d).held ≡ index_of d.worker.kept) desks
        → AreTheHeld shared (map pass_at desks) (held_at desks)
    are-held shared desks own held = record {
      queue_of = λ k h is. subst (λ (v : HeldStanding B). v.queue ≡ shared) (get_or_from_slice_get (held_at desks) k h h is)
          (held-own shared desks own k h (slice_get_within (held_at desks) k h is));
      all = λ i. held-times i desks held;
    }

    -- what holds of the pass of each worker that met no ticket past the limit holds of all passes, where none met one
    pub all-behind : (P : PassStanding B → Type 0) (desks : List (Desk (Seat W B Place) S)) → All (λ d. (pass_at d).spent ≡ None → P (pass_at d)) desks
        → NoneSpent (map pass_at desks) → All P (map pass_at desks)
    all-behind P [] each none = All-nil P
    all-behind P (d ∷ desks) each none =
        let Q : Desk (Seat W B Place) S → Type 0 = λ e. (pass_at e).spent ≡ None → P (pass_at e) in
        let R : PassStanding B → Type 0 = λ x. x.spent ≡ None in
        let passes = map pass_at desks in
        All-cons P (pass_at d) passes (All-head Q d desks each (All-head R (pass_at d) passes none))
        (all-behind P desks (All-tail Q d desks each) (All-tail R (pass_at d) passes none))

-- what is there, with what holds of it
pub record ThereIs {X : Type 0} (o : Option X) (P : X → Type 0) : Type 0 where
  pub it : X
  pub same : o ≡ Some it
  pub holds : P it

pub some-of : {X : Type 0} (o : Option X) (P : X → Type 0) → IsSome o → IfSome o P → ThereIs o P
some-of None P there so = absurd (cc)
some-of (Some x) P there so = record { it = x; same = refl; holds = so }

pub some-and : {X : Type 0} (o : Option X) (P : X → Type 0) → IsSomeAnd o P → ThereIs o P
some-and None P so = absurd so
some-and (Some x) P so = record { it = x; same = refl; holds = so }
