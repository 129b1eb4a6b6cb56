-- Fair values have a one-thread run. Plan: they are ordered, get points, and the run takes each front as soon as its point comes.
-- Points ascend along the list
use Rattle.std.proofs.Common.{◌≡◌, ℕ, ◌+◌, ◌≤◌, inl, inr, List, [], ◌∷◌, length, refl, sym, ap, ◌∙◌, subst, arith}
use Rattle.std.specs.Prelude.{max}
use Rattle.scq_hist.specs.Exports.{StandsIn, Distinct}
use Rattle.scq_order.proofs.Values.{Value, AreFair, IsOrdering}
use Rattle.scq_order.proofs.Ops.{Pointed, IsPoint, points, Op, point_of, Ascends}
use Rattle.scq_order.proofs.Sorting.{ordering}
use Rattle.scq_order.proofs.Greedy.{IsRun, are_good, run_of}

-- what has a point is of the list, and each of the list has one point
pub points_from : (t u : ℕ) (vs : List Value) (p : Pointed) → StandsIn (points t u vs) p → StandsIn vs p.value
points_from t u [] p h = absurd h
points_from t u (v ∷ vs) p (inl e) = inl (ap (λ (z : Pointed). z.value) e)
points_from t u (v ∷ vs) p (inr h) = inr (points_from (max t v.put_from) (max u v.got_from) vs p h)

pub points_to : (t u : ℕ) (vs : List Value) (v : Value) → StandsIn vs v → (p : Pointed) × StandsIn (points t u vs) p × (p.value ≡ v)
points_to t u [] v h = absurd h
points_to t u (w ∷ vs) v (inl e) = (record { value = w; put_at = max t w.put_from; got_at = max u w.got_from }, inl refl, e)
points_to t u (w ∷ vs) v (inr h) = let r = points_to (max t w.put_from) (max u w.got_from) vs v h in (r.0, inr r.1, r.2)

pub one_point : (t u : ℕ) (vs : List Value) (p r : Pointed) → Distinct vs → StandsIn (points t u vs) p → StandsIn (points t u vs) r → p.value ≡ r.value → p ≡ r
one_point t u [] p r d h k e = absurd h
one_point t u (v ∷ vs) p r d (inl a) (inl b) e = sym a ∙ b
one_point t u (v ∷ vs) p r d (inl a) (inr k) e =
    absurd (d.0 (subst (λ z. StandsIn vs z) (sym e ∙ sym (ap (λ (z : Pointed). z.value) a)) (points_from (max t v.put_from) (max u v.got_from) vs r k)))
one_point t u (v ∷ vs) p r d (inr h) (inl b) e =
    absurd (d.0 (subst (λ z. StandsIn vs z) (e ∙ sym (ap (λ (z : Pointed). z.value) b)) (points_from (max t v.put_from) (max u v.got_from) vs p h)))
one_point t u (v ∷ vs) p r d (inr h) (inr k) e = one_point (max t v.put_from) (max u v.got_from) vs p r d.1 h k e

points_distinct : (t u : ℕ) (vs : List Value) → Distinct vs → Distinct (points t u vs)
points_distinct t u [] d = tt
points_distinct t u (v ∷ vs) d = (
  λ h. d.0 (points_from (max t v.put_from) (max u v.got_from) vs (record { value = v; put_at = max t v.put_from; got_at = max u v.got_from }) h),
  points_distinct (max t v.put_from) (max u v.got_from) vs d.1,
)

pub record OneThread (vs : List Value) : Type 0 where
  pub order : List Value
  pub is_order : IsOrdering vs order
  pub point : (p : Pointed) → StandsIn (points 0 0 order) p → IsPoint p
  pub ops : List Op
  pub is_run : IsRun 0 [] (points 0 0 order) ops

pub one_thread : (vs : List Value) → Distinct vs → AreFair vs → OneThread vs
one_thread vs d fair =
    let o = ordering (length vs) vs refl d fair in
    let good = are_good 0 0 o.0 (omega arith) (λ v h. fair.trimmed v (o.1.from v h)) (λ v h. omega arith) (λ v h. omega arith) o.1.ordered in
    let r = run_of (length (points 0 0 o.0) + length (points 0 0 o.0) + 0) 0 [] (points 0 0 o.0) (omega arith) good.point good.puts_from good.gets_from
    (points_distinct 0 0 o.0 o.1.distinct) in
    record { order = o.0; is_order = o.1; point = good.point; ops = r.0; is_run = r.1 }

pub later_point : (p : ℕ) (ops : List Op) (x : Op) → Ascends p ops → StandsIn ops x → p ≤ point_of x
later_point p [] x a h = absurd h
later_point p (op ∷ ops) x a (inl e) = let q = ap point_of e in let b = a.0 in omega arith
later_point p (op ∷ ops) x a (inr h) = let l = later_point (point_of op) ops x a.1 h in let b = a.0 in omega arith
