-- Where each queue of a lawful history has a one-thread order, the history is right
use Rattle.std.proofs.Common.{◌≡◌, ℕ, suc, ◌<◌, ◌⊎◌, inl, inr, List, [], ◌∷◌, length, refl, sym, ap, ◌∙◌, subst, arith}
use Rattle.std.specs.Prelude.{Some, slice_get, get_or}
use Rattle.std.proofs.lemmas.Bool.{cases_order}
use Rattle.std.proofs.lemmas.Option.{slice_get-get_or}
use Rattle.scq_hist.specs.Exports.{under_way, puts_before, IsCall, IsPut, IsFinishedAt, IsGot, IsGotBefore, IsGetOf, Names, IsOnce, IsInOrder, IsBegun, IsLawful, IsLawfulAt, IsAnswer, SuitsCall, Precedes, AllClaimed, StandsIn, Distinct}
use Rattle.scq_order.specs.Exports.{Member, token, call_at, IsEnded, StandsBefore, IsOrderOf, HasOrders, IsRight}
use Rattle.scq_hist.specs.declared.events.Call.{Call}
use Rattle.scq_hist.specs.declared.events.Call.TheVariants.{Put, Get}
use Rattle.scq_hist.specs.declared.events.Event.{Event}
use Rattle.scq_hist.specs.declared.events.Event.TheVariants.{Start, End}
use Rattle.scq_hist.specs.declared.events.PutName.{PutName}
use Rattle.scq_hist.specs.declared.events.PutName.TheVariants.{Opening, Of}
use Rattle.scq_hist.specs.declared.events.Reply.{Reply}
use Rattle.scq_hist.specs.declared.events.Reply.TheVariants.{Done, Got, Spent}
use Rattle.scq_hist.proofs.UnderWay.{one_end}
use Rattle.scq_hist.proofs.Puts.{one_start, same_put}
use Rattle.scq_hist.proofs.TallyLemmas.{names_from_get}
use Rattle.scq_order.proofs.FreshOrders.{PutsThis, IsPutBefore, one_reply, behind_is_in, front_is_in, one_way, put_before, fresh_from_orders}
use Rattle.scq_order.proofs.EmptyOrders.{IsGotIn, empty_from_orders}
use Rattle.scq_order.proofs.TurnOrders.{IsApart, in_turn, no_second, put_is}

apart_at_first : (opening : List (List ℕ)) (events : List Event) (order : List Member) → Distinct order → IsApart opening events [] order
apart_at_first opening events order d = record { distinct = tt; unput = λ w h y s. absurd h; members = d }

-- the get of a Got
record GotCall (events : List Event) (e : ℕ) (name : PutName) : Type 0 where
  pub seat : ℕ
  pub q : ℕ
  pub s : ℕ
  pub content : List ℕ
  pub is : IsCall events seat (Get q) s e (Got name content)

got_by_get : (events : List Event) (seat s e : ℕ) (call : Call) (name : PutName) (content : List ℕ) → IsCall events seat call s e (Got name content)
    → SuitsCall call (Got name content) → GotCall events e name
got_by_get events seat s e (Put p w) name content is suits = absurd suits
got_by_get events seat s e (Get q) name content is suits = record { seat = seat; q = q; s = s; content = content; is = is }

got_call : (events : List Event) (e : ℕ) (name : PutName) → IsLawful events → Names events e name → GotCall events e name
got_call events e name lawful n =
    let a : IsAnswer events n.seat e (Got name n.content) = subst (λ z. IsLawfulAt events e z) n.ends (lawful e) in
    got_by_get events n.seat a.s e a.call name n.content a.is_call a.suits

got_stands : (opening : List (List ℕ)) (events : List Event) (order : List Member) (s e seat q : ℕ) (name : PutName) (content : List ℕ)
    → IsOrderOf opening events q order → IsCall events seat (Get q) s e (Got name content) → StandsIn order (call_at s)
got_stands opening events order s e seat q name content o is = o.all (call_at s) (record {
  ended = record { seat = seat; call = Get q; e = e; reply = Got name content; is = is };
  of_queue = refl;
  not_spent = λ h. absurd cc;
})

-- what stands before a call started before it ended
early : (opening : List (List ℕ)) (events : List Event) (order : List Member) (r s e seat q : ℕ) (call : Call) (reply : Reply) → IsOrderOf opening events q order
    → IsCall events seat call s e reply → StandsBefore order (call_at r) (call_at s) → r < e
early opening events order r s e seat q call reply o is before =
    let there = front_is_in order (call_at r) (call_at s) before in
    let x = o.only (call_at r) there in
    elim (cases_order r e) [
      | inl same ↦ (let c = subst (λ z. slice_get events z ≡ Some (Start x.ended.seat x.ended.call)) same x.ended.is.starts in let ends = is.ends in absurd cc)
      | inr w ↦ elim w [
        | inl lt ↦ lt
        | inr late ↦ absurd (one_way order (call_at r) (call_at s) o.once before
            (o.real_time s r e seat call reply is late (behind_is_in order (call_at r) (call_at s) before) there))
      ]
    ]

pub either : {X : Type 0} (xs : List X) (x y : X) → StandsIn xs x → StandsIn xs y → (x ≡ y) ⊎ (StandsBefore xs x y ⊎ StandsBefore xs y x)
either {X} [] x y h k = absurd h
either {X} (z ∷ zs) x y (inl a) (inl b) = inl (sym a ∙ b)
either {X} (z ∷ zs) x y (inl a) (inr k) = inr (inl (inl (a, k)))
either {X} (z ∷ zs) x y (inr h) (inl b) = inr (inr (inl (b, h)))
either {X} (z ∷ zs) x y (inr h) (inr k) = elim (either zs x y h k) [
  | inl e ↦ inl e
  | inr w ↦ inr (elim w [ inl a ↦ inl (inr a) | inr b ↦ inr (inr b) ])
]

record SameOrigin (q r : ℕ) (c d : List ℕ) : Type 0 where
  pub queues : q ≡ r
  pub contents : c ≡ d

one_origin : (opening : List (List ℕ)) (events : List Event) (name : PutName) (q r d e : ℕ) (c w : List ℕ) → IsBegun opening events name q c d
    → IsBegun opening events name r w e → SameOrigin q r c w
one_origin opening events (Opening j) q r d e c w a b =
    let x = a.0 in let y = b.0 in let m = a.1 in let n = b.1 in record { queues = cc; contents = cc }
one_origin opening events (Of k n) q r d e c w a b =
    let s = same_put events k n q r a.0 b.0 c w a.2 b.2 in record { queues = s.queue; contents = s.content }

pub one_end_of : (events : List Event) (s d e seat k : ℕ) (call other : Call) (reply said : Reply) → IsCall events seat call s d reply
    → IsCall events k other s e said → d ≡ e
one_end_of events s d e seat k call other reply said is that =
    let a = is.starts in let b = that.starts in
    let seats : k ≡ seat = cc in
    let w = subst (λ z. under_way events z e ≡ Some s) seats that.under_way_till in
    let y = subst (λ z. slice_get events e ≡ Some (End z said)) seats that.ends in
    one_end events seat s d e reply said is.under_way_till is.ends w y

pub once_from_orders : (opening : List (List ℕ)) (events : List Event) → IsLawful events → HasOrders opening events → IsOnce events
once_from_orders opening events lawful orders e name d at_e lt at_d =
    let fresh = fresh_from_orders opening events orders in
    let x = got_call events e name lawful at_e in
    let y = got_call events d name lawful at_d in
    let same = one_origin opening events name y.q x.q d e y.content x.content (fresh d y.s y.seat y.q name y.content y.is) (fresh e x.s x.seat x.q name x.content x.is) in
    let that : IsCall events y.seat (Get x.q) y.s d (Got name x.content) =
    subst (λ z. IsCall events y.seat (Get z) y.s d (Got name x.content)) same.queues (subst (λ z. IsCall events y.seat (Get y.q) y.s d (Got name z)) same.contents y.is) in
    let order = (orders x.q).0 in
    let o = (orders x.q).1 in
    let here = got_stands opening events order x.s e x.seat x.q name x.content o x.is in
    let there = got_stands opening events order y.s d y.seat x.q name x.content o that in
    let first = apart_at_first opening events order o.once in
    elim (either order (call_at x.s) (call_at y.s) here there) [
      | inl one ↦ (let starts : x.s ≡ y.s = cc in
          let ends = one_end_of events y.s e d x.seat y.seat (Get x.q) (Get x.q) (Got name x.content) (Got name x.content)
          (subst (λ z. IsCall events x.seat (Get x.q) z e (Got name x.content)) starts x.is) that in omega arith)
      | inr w ↦ elim w [
        | inl b ↦ no_second opening events x.s e x.seat x.q y.s d y.seat x.q (name, x.content) x.is that [] order o.plain first b
        | inr b ↦ no_second opening events y.s d y.seat x.q x.s e x.seat x.q (name, x.content) that x.is [] order o.plain first b
      ]
    ]

got_before : (opening : List (List ℕ)) (events : List Event) (order : List Member) (s e seat q : ℕ) (call : Call) (reply : Reply) (name : PutName) (content : List ℕ)
    → IsOnce events → IsOrderOf opening events q order → IsCall events seat call s e reply → IsGotIn events order (call_at s) (name, content) → IsGotBefore events e name
got_before opening events order s e seat q call reply name content once o is g = record {
  s = g.r;
  e = g.gets_it.e;
  before = early opening events order g.r s e seat q call reply o is g.before;
  get = record {
    seat = g.gets_it.seat;
    queue = g.gets_it.q;
    content = content;
    call = g.gets_it.is;
    first = λ d lt. once g.gets_it.e name d (record { seat = g.gets_it.seat; content = content; ends = g.gets_it.is.ends }) lt;
  };
}

all_claimed : (events : List Event) (queue m : ℕ) (P : PutName → Type 0) → ((name : PutName) → P name → IsGotBefore events m name) → AllClaimed events queue m P
all_claimed events queue m P got = record {
  claimed = λ name p. inl (got name p);
  matched = record {
    partner = λ name h. absurd (none name h);
    into = λ name h. absurd (none name h);
    one_to_one = λ name other h k same. absurd (none name h);
  };
} where
  none : (name : PutName) → P name × (¬ IsGot events name) → ⊥
  none name h = let g = got name h.0 in h.1 (g.e, names_from_get events name g.s g.e g.get)

-- the member that puts this name
by_is : (opening : List (List ℕ)) (events : List Event) (by : Member) (seat number q start : ℕ) (w c : List ℕ) → PutsThis opening events by (Of seat number, w)
    → IsPut events seat number q c start → by ≡ call_at start
by_is opening events (token j) seat number q start w c t put = let x = t.0 in absurd cc
by_is opening events (call_at r) seat number q start w c t put =
    let x = t.3 in
    let seats : t.0.seat ≡ seat = cc in
    let counts : number ≡ suc (puts_before events t.0.seat r) = cc in
    ap call_at (one_start events seat number t.1 q r start w c (put_is events r seat t.0 t.1 w number t.2 counts seats) put)

record InFront (opening : List (List ℕ)) (events : List Event) (order : List Member) (x : Member) (name : PutName) : Type 0 where
  pub content : List ℕ
  pub by : Member
  pub puts_it : PutsThis opening events by (name, content)
  pub before : StandsBefore order by x

finished_in_front : (opening : List (List ℕ)) (events : List Event) (order : List Member) (q start : ℕ) → IsOrderOf opening events q order
    → StandsIn order (call_at start) → (name : PutName) → IsFinishedAt opening events q start name → InFront opening events order (call_at start) name
finished_in_front opening events order q start o here (Opening j) fin = record {
  content = get_or opening j [];
  by = token j;
  puts_it = (refl, slice_get-get_or opening j [] fin.1);
  before = o.first j start (o.all (token j) fin) here;
}
finished_in_front opening events order q start o here (Of k n) fin =
    let done = fin.2 in
    let ended : IsEnded events done.s = record { seat = k; call = Put q done.content; e = fin.0; reply = Done; is = done.call } in
    let m = o.all (call_at done.s) (record { ended = ended; of_queue = refl; not_spent = λ h. absurd cc }) in
    record {
      content = done.content;
      by = call_at done.s;
      puts_it = (ended, q, refl, ap (λ z. Of k z) done.put.counted);
      before = o.real_time done.s start fin.0 k (Put q done.content) Done done.call fin.1 m here;
    }

pub in_order_from_orders : (opening : List (List ℕ)) (events : List Event) → IsLawful events → HasOrders opening events → IsInOrder opening events
in_order_from_orders opening events lawful orders e s seat number queue start content g put =
    let begun = fresh_from_orders opening events orders e s g.seat g.queue (Of seat number) g.content g.call in
    let same = same_put events seat number g.queue queue begun.0 start g.content content begun.2 put in
    let order = (orders g.queue).0 in
    let o = (orders g.queue).1 in
    let here = got_stands opening events order s e g.seat g.queue (Of seat number) g.content o g.call in
    let v : PutName × List ℕ = (Of seat number, g.content) in
    let p : IsPutBefore opening events order (call_at s) v = elim (put_before opening events s e g.seat g.queue v g.call [] order o.plain here) [
      | inl none ↦ absurd none
      | inr w ↦ w
    ] in
    let by = by_is opening events p.by seat number queue start g.content content p.puts_it put in
    let there : StandsIn order (call_at start) = subst (λ z. StandsIn order z) by (front_is_in order p.by (call_at s) p.before) in
    let puts : PutsThis opening events (call_at start) v = subst (λ z. PutsThis opening events z v) by p.puts_it in
    all_claimed events queue e (Precedes opening events queue start) (λ name before.
    let f = finished_in_front opening events order g.queue start o there name (subst (λ z. IsFinishedAt opening events z start name) (sym same.queue) before) in
    got_before opening events order s e g.seat g.queue (Get g.queue) (Got (Of seat number) g.content) name f.content
    (once_from_orders opening events lawful orders) o g.call
    (in_turn opening events s e g.seat g.queue v g.call [] order o.plain (apart_at_first opening events order o.once) here (name, f.content)
    (inr (inr (record { one = f.by; two = call_at start; puts_one = f.puts_it; puts_two = puts; before = f.before })))))

tokens_from_orders : (opening : List (List ℕ)) (events : List Event) → IsLawful events → HasOrders opening events → (j s e : ℕ) → j < length opening
    → IsGetOf events (Opening j) s e → AllClaimed events 0 e (λ name. (i : ℕ) × (i < j) × (name ≡ Opening i))
tokens_from_orders opening events lawful orders j s e low g =
    let begun = fresh_from_orders opening events orders e s g.seat g.queue (Opening j) g.content g.call in
    let order = (orders g.queue).0 in
    let o = (orders g.queue).1 in
    let here = got_stands opening events order s e g.seat g.queue (Opening j) g.content o g.call in
    let v : PutName × List ℕ = (Opening j, g.content) in
    let puts : PutsThis opening events (token j) v = (refl, begun.1) in
    all_claimed events 0 e (λ name. (i : ℕ) × (i < j) × (name ≡ Opening i)) (λ name w.
    let inside : w.0 < length opening = (let lt = w.1 in omega arith) in
    let first = o.all (token w.0) (begun.0, inside) in
    let last = o.all (token j) (begun.0, low) in
    subst (λ z. IsGotBefore events e z) (sym w.2)
    (got_before opening events order s e g.seat g.queue (Get g.queue) (Got (Opening j) g.content) (Opening w.0) (get_or opening w.0 [])
    (once_from_orders opening events lawful orders) o g.call
    (in_turn opening events s e g.seat g.queue v g.call [] order o.plain (apart_at_first opening events order o.once) here (Opening w.0, get_or opening w.0 [])
    (inr (inr (record {
      one = token w.0;
      two = token j;
      puts_one = (refl, slice_get-get_or opening w.0 [] inside);
      puts_two = puts;
      before = o.ascend w.0 j w.1 first last;
    }))))))

accepted_from_orders : (opening : List (List ℕ)) (events : List Event) → IsLawful events → HasOrders opening events → (e seat number d s queue : ℕ) (content : List ℕ)
    → Names events e (Of seat number) → number ≡ suc (puts_before events seat s) → ¬ IsCall events seat (Put queue content) s d Spent
accepted_from_orders opening events lawful orders e seat number d s queue content names counted spent =
    let x = got_call events e (Of seat number) lawful names in
    let order = (orders x.q).0 in
    let o = (orders x.q).1 in
    let here = got_stands opening events order x.s e x.seat x.q (Of seat number) x.content o x.is in
    let put : IsPut events seat number queue content s = record { starts = spent.starts; counted = counted } in
    elim (put_before opening events x.s e x.seat x.q (Of seat number, x.content) x.is [] order o.plain here) [
      | inl none ↦ absurd none
      | inr p ↦ (let by = by_is opening events p.by seat number queue s x.content content p.puts_it put in
          let m = o.only (call_at s) (subst (λ z. StandsIn order z) by (front_is_in order p.by (call_at x.s) p.before)) in
          m.not_spent (one_reply events s d seat (Put queue content) Spent spent m.ended).1)
    ]

pub right_from_orders : (opening : List (List ℕ)) (events : List Event) → IsLawful events → HasOrders opening events → IsRight opening events
right_from_orders opening events lawful orders = record {
  aspects = record {
    lawful = lawful;
    fresh = fresh_from_orders opening events orders;
    once = once_from_orders opening events lawful orders;
    in_order = in_order_from_orders opening events lawful orders;
    empty_right = empty_from_orders opening events (once_from_orders opening events lawful orders) orders;
  };
  accepted = accepted_from_orders opening events lawful orders;
  tokens = tokens_from_orders opening events lawful orders;
}
