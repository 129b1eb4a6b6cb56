-- What happens in one thread, read as members of an order: a value that nobody got is got by no member
use Rattle.std.proofs.Common.{◌≡◌, ℕ, ◌≤◌, ◌⊎◌, inl, inr, List, [], ◌∷◌, refl, sym, ap, ◌∙◌, subst}
use Rattle.std.specs.Prelude.{Option, Some, None}
use Rattle.scq_hist.specs.Exports.{StandsIn, Distinct}
use Rattle.scq_order.specs.Exports.{Member, call_at, StandsBefore}
use Rattle.scq_order.proofs.Ops.{Op, puts, gets, finds_none, point_of, Ascends}
use Rattle.scq_order.proofs.OneThread.{later_point}

abbrev pub taking : Option ℕ → Option Member
taking None = None
taking (Some s) = Some (call_at s)

abbrev pub member_of : Op → Option Member
member_of (puts x) = Some x.value.source
member_of (gets x) = taking x.value.taker
member_of (finds_none x) = Some x.value.source

abbrev pub with_first : Option Member → List Member → List Member
with_first None rest = rest
with_first (Some m) rest = m ∷ rest

abbrev pub members : List Op → List Member
members [] = []
members (op ∷ ops) = with_first (member_of op) (members ops)

in_rest : (first : Option Member) (rest : List Member) (m : Member) → StandsIn rest m → StandsIn (with_first first rest) m
in_rest None rest m h = h
in_rest (Some y) rest m h = inr h

first_or_rest : (first : Option Member) (rest : List Member) (m : Member) → StandsIn (with_first first rest) m → (first ≡ Some m) ⊎ StandsIn rest m
first_or_rest None rest m h = inr h
first_or_rest (Some y) rest m (inl e) = inl (ap Some e)
first_or_rest (Some y) rest m (inr h) = inr h

first_before : (first : Option Member) (rest : List Member) (m n : Member) → StandsBefore (with_first first rest) m n
    → ((first ≡ Some m) × StandsIn rest n) ⊎ StandsBefore rest m n
first_before None rest m n h = inr h
first_before (Some y) rest m n (inl w) = inl (ap Some w.0, w.1)
first_before (Some y) rest m n (inr h) = inr h

pub members_to : (ops : List Op) (op : Op) (m : Member) → StandsIn ops op → member_of op ≡ Some m → StandsIn (members ops) m
members_to [] op m h is = absurd h
members_to (o ∷ ops) op m (inl e) is =
    let q : Some m ≡ member_of o = sym (ap member_of e ∙ is) in
    subst (λ z. StandsIn (with_first z (members ops)) m) q (inl refl)
members_to (o ∷ ops) op m (inr h) is = in_rest (member_of o) (members ops) m (members_to ops op m h is)

pub record Makes (ops : List Op) (m : Member) : Type 0 where
  pub op : Op
  pub is_in : StandsIn ops op
  pub makes : member_of op ≡ Some m

pub members_from : (ops : List Op) (m : Member) → StandsIn (members ops) m → Makes ops m
members_from [] m h = absurd h
members_from (o ∷ ops) m h = elim (first_or_rest (member_of o) (members ops) m h) [
  | inl e ↦ record { op = o; is_in = inl refl; makes = e }
  | inr k ↦ (let r = members_from ops m k in record { op = r.op; is_in = inr r.is_in; makes = r.makes })
]

-- what stands before has no later point
pub record Earlier (ops : List Op) (m n : Member) : Type 0 where
  pub one : Op
  pub other : Op
  pub one_in : StandsIn ops one
  pub other_in : StandsIn ops other
  pub one_makes : member_of one ≡ Some m
  pub other_makes : member_of other ≡ Some n
  pub points : point_of one ≤ point_of other

pub earlier : (p : ℕ) (ops : List Op) (m n : Member) → Ascends p ops → StandsBefore (members ops) m n → Earlier ops m n
earlier p [] m n a h = absurd h
earlier p (o ∷ ops) m n a h = elim (first_before (member_of o) (members ops) m n h) [
  | inl w ↦ (
      let r = members_from ops n w.1 in
      record {
        one = o;
        other = r.op;
        one_in = inl refl;
        other_in = inr r.is_in;
        one_makes = w.0;
        other_makes = r.makes;
        points = later_point (point_of o) ops r.op a.1 r.is_in;
      })
  | inr k ↦ (
      let r = earlier (point_of o) ops m n a.1 k in
      record {
        one = r.one;
        other = r.other;
        one_in = inr r.one_in;
        other_in = inr r.other_in;
        one_makes = r.one_makes;
        other_makes = r.other_makes;
        points = r.points;
      })
]

first_once : (first : Option Member) (rest : List Member) → ((m : Member) → first ≡ Some m → StandsIn rest m → ⊥) → Distinct rest
    → Distinct (with_first first rest)
first_once None rest new d = d
first_once (Some m) rest new d = (new m refl, d)

-- no member twice, where no two ops make the same
pub members_once : (ops : List Op) → Distinct ops
    → ((o r : Op) (m : Member) → StandsIn ops o → StandsIn ops r → member_of o ≡ Some m → member_of r ≡ Some m → o ≡ r) → Distinct (members ops)
members_once [] d one = tt
members_once (o ∷ ops) d one = first_once (member_of o) (members ops)
    (λ m is h. let r = members_from ops m h in d.0 (subst (λ z. StandsIn ops z) (one r.op o m (inr r.is_in) (inl refl) r.makes is) r.is_in))
    (members_once ops d.1 (λ a b m h k. one a b m (inr h) (inr k)))
