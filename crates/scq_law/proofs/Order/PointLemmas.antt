-- Points lie inside their calls, rise with places, and a deciding step that comes after a put's point comes after its get's.
use Rattle.std.proofs.Common.{◌≡◌, ℕ, ◌+◌, ◌<◌, ◌≤◌, inl, inr, List, refl, ap, sym, subst, arith}
use Rattle.std.specs.Prelude.{max}
use Rattle.scq_core.specs.declared.ended.Ended.TheVariants.{Done, Got, Nothing}
use Rattle.scq_law.specs.Exports.{IsFinished, Recorded, IsRun, DrawsPut, DrawsGet, HasEnded, state_before, IsDecidingStep, IsPutPoint, IsPointOfPlace}
use Rattle.scq_law.specs.Exports.{of_call, IsGetPoint, Key, key, HasKey, of_nothing, of_put, of_get, LiesWithin}
use Rattle.scq_law.specs.declared.ordered.Ordered.{Ordered}
use Rattle.scq_law.specs.declared.ordered.Ordered.TheVariants.{Call}
use Rattle.scq_law.specs.RunSteps.{Run}
use Rattle.scq_law.specs.Points.{of_opening}
use Rattle.scq_law.specs.Order as order
use Rattle.scq_law.proofs.Order.Decisions.{decided_below, decides_before}
use Rattle.scq_law.proofs.Order.DrawOrder.{put_draws_rise, get_draws_rise, drawn_later, drawn_past, done_draw, got_end, put_before_got}

-- what has a key, by what it is
pub data CallKey (run : Run) (r k x : ℕ) (f : Key) : Type 0 where
  nothing_key : (d : ℕ) → HasEnded run k x (Nothing r) → IsDecidingStep run d k x r → f ≡ key (d + 1) 0 0 → CallKey run r k x f
  put_key : (p point : ℕ) (w : List ℕ) → HasEnded run k x (Done r p w) → IsPutPoint run k x r p point → f ≡ key point 1 p → CallKey run r k x f
  get_key : (p point : ℕ) (w : List ℕ) → HasEnded run k x (Got r p w) → IsGetPoint run k r p point → f ≡ key point 2 p → CallKey run r k x f

pub call_key : (run : Run) (r : ℕ) (y : Ordered) (f : Key) → HasKey run r y f → (k x : ℕ) → y ≡ Call k (x + 1) → CallKey run r k x f
call_key run r y f (order.of_opening j ring low) k x same = absurd (cc)
call_key run r y f (of_nothing s c d ended is) k x same =
    let seat : s ≡ k = cc in
    let number : c + 1 ≡ x + 1 = cc in
    let call : c ≡ x = omega arith in rw (← seat, ← call) (nothing_key d ended is refl)
call_key run r y f (of_put s c p point w ended is) k x same =
    let seat : s ≡ k = cc in
    let number : c + 1 ≡ x + 1 = cc in
    let call : c ≡ x = omega arith in rw (← seat, ← call) (put_key p point w ended is refl)
call_key run r y f (of_get s c p point w ended is) k x same =
    let seat : s ≡ k = cc in
    let number : c + 1 ≡ x + 1 = cc in
    let call : c ≡ x = omega arith in rw (← seat, ← call) (get_key p point w ended is refl)

max_rises : (a b c d : ℕ) → a ≤ b → c ≤ d → max a c ≤ max b d
max_rises a b c d left right = omega arith

max_within : (a b n : ℕ) → a ≤ n → b ≤ n → max a b ≤ n
max_within a b n left right = omega arith

max_left : (a b : ℕ) → a ≤ max a b
max_left a b = omega arith

max_right : (a b : ℕ) → b ≤ max a b
max_right a b = omega arith

module _ (run : Run) (recorded : Recorded) (is_run : IsRun run.setup run.opening run.steps recorded) where
  -- points of puts rise with places
  pub put_points_rise : (k x h y r p q a b : ℕ) (v w : List ℕ) → p ≤ q → HasEnded run h y (Done r q w) → IsPutPoint run k x r p a
      → IsPutPoint run h y r q b → a ≤ b
  put_points_rise k x h y r p q a b v w order ended first second =
      let draws = put_draws_rise run recorded is_run first.drawn second.drawn k h r p q order first.draws second.draws in
      let low = second.from_draw in
      elim first.reached [
        | inl drawn ↦ omega arith
        | inr decided ↦
            let d = decided.1 in
            let head = d.head in
            let before = decides_before run recorded is_run decided.0 d.decider d.nothing h y r q w d.decides (omega arith) ended in
            let least = second.from_decisions decided.0 before in
            let is = decided.2 in
            omega arith
      ]

  pub place_points_rise : (r p q a b : ℕ) → p ≤ q → IsPointOfPlace run r p a → IsPointOfPlace run r q b → a ≤ b
  place_points_rise r p q a b order (of_opening ring first last) second = omega arith
  place_points_rise r p q a b order (of_call k x point w ended is) (of_opening ring first last) =
      let past = drawn_past run recorded is_run is.drawn k r p is.draws ring in absurd (omega arith)
  place_points_rise r p q a b order (of_call k x point w ended is) (of_call h y later v done at) =
      put_points_rise k x h y r p q point later w v order done is at

  -- a deciding step with Head no further than the place of a put is no later than its point
  pub decided_by_point : (d j y r p point : ℕ) → IsDecidingStep run d j y r → (state_before run d).cells.head r ≤ p → IsPointOfPlace run r p point
      → d + 1 ≤ point
  decided_by_point d j y r p point is head (of_opening ring first last) =
      let fin : IsFinished run.setup (state_before run d) r p = inr (record { ring = ring; first = first; last = last }) in
      let below = decided_below run recorded is_run d j y r p is fin in
      absurd (omega arith)
  decided_by_point d j y r p point is head (of_call k x least w ended at) =
      at.from_decisions d (decides_before run recorded is_run d j y k x r p w is head ended)

  -- points of gets rise with places
  pub get_points_rise : (k h r p q a b : ℕ) → p ≤ q → IsGetPoint run k r p a → IsGetPoint run h r q b → a ≤ b
  get_points_rise k h r p q a b order first second =
      let draws = get_draws_rise run recorded is_run first.drawn second.drawn k h r p q order first.draws second.draws in
      let puts = place_points_rise r p q first.put second.put order first.of_put second.of_put in
      let less = max_rises (first.drawn + 1) (second.drawn + 1) first.put second.put (omega arith) puts in
      let is = first.is in
      let at = second.is in
      omega arith

  -- a get's point is no earlier than its put's
  pub put_before_get : (k r p a b : ℕ) → IsPointOfPlace run r p a → IsGetPoint run k r p b → a ≤ b
  put_before_get k r p a b put get =
      let same = place_points_rise r p p a get.put (omega arith) put get.of_put in
      let less = max_right (get.drawn + 1) get.put in
      let is = get.is in
      omega arith

  -- the point of a put is no later than its own draw, or its get's
  pub put_point_drawn : (k r p d point : ℕ) → DrawsGet run d k r p → IsPointOfPlace run r p point → (at : ℕ) → ((i h : ℕ) → DrawsPut run i h r p → i < at)
      → d < at → point ≤ at
  put_point_drawn k r p d point draws (of_opening ring first last) at before below = omega arith
  put_point_drawn k r p d point draws (of_call s x least w ended is) at before below =
      let drawn = before is.drawn s is.draws in
      elim is.reached [
        | inl own ↦ omega arith
        | inr decided ↦
            let later = drawn_later run recorded is_run decided.0 d k r p decided.1.head draws in
            let same = decided.2 in
            omega arith
      ]

  -- points lie within their calls
  put_within : (k x r p point : ℕ) (w : List ℕ) → HasEnded run k x (Done r p w) → IsPutPoint run k x r p point → LiesWithin run k x point
  put_within k x r p point w ended is =
      let draw = done_draw run recorded is_run k x r p w ended in
      let up = put_draws_rise run recorded is_run is.drawn draw.at k k r p p (omega arith) is.draws draw.draws in
      let down = put_draws_rise run recorded is_run draw.at is.drawn k k r p p (omega arith) draw.draws is.draws in
      let low = is.from_draw in
      elim is.reached [
        | inl own ↦
            record { first = draw.at; is_first = draw.in_call; after = omega arith; last = draw.at; is_last = draw.in_call; before = omega arith }
        | inr decided ↦
            let before = decided.1.before in
            let same = decided.2 in
            record {
              first = draw.at;
              is_first = draw.in_call;
              after = omega arith;
              last = decided.1.later;
              is_last = decided.1.is_later;
              before = omega arith;
            }
      ]

  get_within : (k x r p point : ℕ) (w : List ℕ) → HasEnded run k x (Got r p w) → IsGetPoint run k r p point → LiesWithin run k x point
  get_within k x r p point w ended is =
      let e = got_end run recorded is_run k x r p w ended in
      let d = e.draw in
      let up = get_draws_rise run recorded is_run is.drawn d.at k k r p p (omega arith) is.draws d.draws in
      let down = get_draws_rise run recorded is_run d.at is.drawn k k r p p (omega arith) d.draws is.draws in
      let below = d.before in
      let put = put_point_drawn k r p is.drawn is.put is.draws is.of_put e.at (put_before_got run recorded is_run k x r p w e) (omega arith) in
      let left = max_left (is.drawn + 1) is.put in
      let high = max_within (is.drawn + 1) is.put (e.at + 1) (omega arith) (omega arith) in
      let same = is.is in
      record { first = d.at; is_first = d.in_call; after = omega arith; last = e.at; is_last = e.in_call; before = omega arith }

  pub points_within : (r k x : ℕ) (f : Key) → HasKey run r (Call k (x + 1)) f → LiesWithin run k x f.point
  points_within r k x f has = within (call_key run r (Call k (x + 1)) f has k x refl)
    where
      within : CallKey run r k x f → LiesWithin run k x f.point
      within (nothing_key d ended is same) =
          let point : f.point ≡ d + 1 = ap (λ (g : Key). g.point) same in
          record { first = d; is_first = is.in_call; after = omega arith; last = d; is_last = is.in_call; before = omega arith }
      within (put_key p point w ended is same) = subst (LiesWithin run k x) (sym (ap (λ (g : Key). g.point) same)) (put_within k x r p point w ended is)
      within (get_key p point w ended is same) = subst (LiesWithin run k x) (sym (ap (λ (g : Key). g.point) same)) (get_within k x r p point w ended is)
