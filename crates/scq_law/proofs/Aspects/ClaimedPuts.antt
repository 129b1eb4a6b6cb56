-- The history of a run is fresh and once, and which puts are claimed. Plan: each End with Got is that of one taken
-- ticket; so no two name one put, and a put whose place Head has passed is got by just the call that drew its place.
use Rattle.std.proofs.Common.{◌≡◌, ℕ, ◌<◌, ◌≤◌, ◌⊎◌, inl, inr, true, List, refl, ap, sym, ◌∙◌, subst, arith}
use Rattle.std.specs.Prelude.{Some, slice_get}
use Rattle.std.proofs.lemmas.Bool.{cases_lt}
use Rattle.scq_word.specs.declared.setup.Setup.{Setup}
use Rattle.scq_core.specs.Exports.{ring_slots, trying}
use Rattle.scq_hist.specs.Exports.{IsCall, Names, IsGot, IsGetOf, IsFresh, IsOnce, IsBegun, IsClaimed, AllClaimed}
use Rattle.scq_hist.specs.declared.events.Call.TheVariants.{Get}
use Rattle.scq_hist.specs.declared.events.Event as history
use Rattle.scq_hist.specs.declared.events.Event.TheVariants.{Start, End}
use Rattle.scq_hist.specs.declared.events.PutName.{PutName}
use Rattle.scq_hist.specs.declared.events.PutName.TheVariants.{Opening, Of}
use Rattle.scq_hist.specs.declared.events.Reply.TheVariants.{Got}
use Rattle.scq_law.specs.Exports.{Recorded, Maker}
use Rattle.scq_law.proofs.Base.Ghosts.{Ghost, GetState, placed, unopened, opened, dead, took, is_placed}
use Rattle.scq_law.proofs.Base.EventFacts.{stance}
use Rattle.scq_law.proofs.Base.Based.{IsBased, based}
use Rattle.scq_law.proofs.Places.SeatTickets.{IsRooted}
use Rattle.scq_law.proofs.Places.Throughout.{rooted, reached}
use Rattle.scq_law.proofs.Aspects.CallsUnderWay.{GetsNow}
use Rattle.scq_law.proofs.Aspects.PlacedPuts.{NamesPut}
use Rattle.scq_law.proofs.Aspects.CoupledRuns.{IsRunTied, IsTiedRun}

module _ (c : Setup) (opening : List (List ℕ)) (recorded : Recorded) (tied_run : IsTiedRun c opening recorded) where
  abbrev events : List history.Event
  events = recorded.events

  abbrev g : Ghost
  g = tied_run.ghost

  abbrev tied : IsRunTied c opening recorded g
  tied = tied_run.tied

  abbrev pub base : IsBased c g recorded.state
  base = based c tied_run.time g recorded.state tied_run.trace

  abbrev root : IsRooted g recorded.state
  root = rooted c tied_run.time g recorded.state tied_run.trace

  -- the taken ticket of an End with Got
  pub record TakenAt (e seat : ℕ) (name : PutName) (content : List ℕ) : Type 0 where
    pub r : ℕ
    pub h : ℕ
    pub number : ℕ
    pub index : ℕ
    pub maker : Maker
    pub took : g.gets r h ≡ took seat number
    pub is : g.puts r h ≡ placed index content maker
    pub named : recorded.placer r h ≡ name
    pub call : IsCall events seat (Get r) (tied.since r h) e (Got name content)
    pub at : tied.ended r h ≡ e
    pub earlier : (u : ℕ) → u ≤ h → tied.since r u < e
    pub begun : tied.origin r h < e

  pub taken_at : (e seat : ℕ) (name : PutName) (content : List ℕ) → slice_get events e ≡ Some (End seat (Got name content)) → TakenAt e seat name content
  taken_at e seat name content ends =
      let t = tied.taken.got e seat name content ends in
      let take = tied.taken.takes t.r t.h t.seat t.number t.is in
      let at = t.at in
      let there : slice_get events e ≡ Some (End t.seat (Got (recorded.placer t.r t.h) take.content)) =
      subst (λ d. slice_get events d ≡ Some (End t.seat (Got (recorded.placer t.r t.h) take.content))) at take.call.ends in
      let same_seat : t.seat ≡ seat = cc in
      let same_content : take.content ≡ content = cc in
      let call : IsCall events t.seat (Get t.r) (tied.since t.r t.h) e (Got (recorded.placer t.r t.h) take.content) =
      subst (λ d. IsCall events t.seat (Get t.r) (tied.since t.r t.h) d (Got (recorded.placer t.r t.h) take.content)) at take.call in
      let begun = take.begun in
      record {
        r = t.r;
        h = t.h;
        number = t.number;
        index = take.index;
        maker = take.maker;
        took = t.is ∙ ap (λ z. took z t.number) same_seat;
        is = take.is ∙ ap (λ z. placed take.index z take.maker) same_content;
        named = t.named;
        call =
            subst (λ z. IsCall events z (Get t.r) (tied.since t.r t.h) e (Got name content)) same_seat
            (subst (λ z. IsCall events t.seat (Get t.r) (tied.since t.r t.h) e (Got z content)) t.named
            (subst (λ z. IsCall events t.seat (Get t.r) (tied.since t.r t.h) e (Got (recorded.placer t.r t.h) z)) same_content call));
        at = at;
        earlier = λ u le. subst (λ d. tied.since t.r u < d) at (take.earlier u le);
        begun = subst (λ d. tied.origin t.r t.h < d) at begun;
      }

  begun_from : (name : PutName) (r : ℕ) (w : List ℕ) (o e : ℕ) → NamesPut opening events name r w o → o < e → IsBegun opening events name r w e
  begun_from (Opening j) r w o e is less = is
  begun_from (Of k n) r w o e is less = (o, less, is)

  pub fresh : IsFresh opening events
  fresh e s seat queue name content call =
      let t = taken_at e seat name content call.ends in
      let named : NamesPut opening events name t.r content (tied.origin t.r t.h) =
      subst (λ z. NamesPut opening events z t.r content (tied.origin t.r t.h)) t.named (tied.placed.named t.r t.h t.index content t.maker t.is) in
      let a = call.under_way_till in
      let b = t.call.under_way_till in
      let start : s ≡ tied.since t.r t.h = cc in
      let x = call.starts in
      let y : slice_get events s ≡ Some (Start seat (Get t.r)) = rw start t.call.starts in
      let queue_is : t.r ≡ queue = cc in
      subst (λ z. IsBegun opening events name z content e) queue_is (begun_from name t.r content (tied.origin t.r t.h) e named t.begun)

  -- one End names a put
  one_end : (d e : ℕ) (name : PutName) → Names events d name → Names events e name → d ≡ e
  one_end d e name a b =
      let t = taken_at d a.seat name a.content a.ends in
      let z = taken_at e b.seat name b.content b.ends in
      let one = tied.placed.one t.r t.h z.r z.h (ap is_placed t.is) (ap is_placed z.is) (t.named ∙ sym z.named) in
      let same : tied.ended z.r z.h ≡ d = subst (λ q. tied.ended q z.h ≡ d) one.0 (subst (λ u. tied.ended t.r u ≡ d) one.1 t.at) in
      sym same ∙ z.at

  pub once : IsOnce events
  once e name d there less before = let same = one_end d e name before there in absurd (omega arith)

module _ (c : Setup) (opening : List (List ℕ)) (recorded : Recorded) (tied_run : IsTiedRun c opening recorded) where
  -- the put has its place in the queue's ring below Head, and the call that drew this place started before moment m
  pub record Ahead (queue m : ℕ) (name : PutName) : Type 0 where
    pub p : ℕ
    pub is : is_placed (tied_run.ghost.puts queue p) ≡ true
    pub named : recorded.placer queue p ≡ name
    pub low : p < recorded.state.cells.head queue
    pub before : tied_run.tied.since queue p < m

  -- the call that drew a placed ticket below Head looks at it still, or took
  pub drawn : (r p : ℕ) → is_placed (tied_run.ghost.puts r p) ≡ true → p < recorded.state.cells.head r
      → ((j : ℕ) × (tied_run.ghost.gets r p ≡ opened j)) ⊎ ((j : ℕ) × (n : ℕ) × (tied_run.ghost.gets r p ≡ took j n))
  drawn r p is low = by_state (tied_run.ghost.gets r p) refl where
    by_state : (x : GetState) → tied_run.ghost.gets r p ≡ x
        → ((j : ℕ) × (tied_run.ghost.gets r p ≡ opened j)) ⊎ ((j : ℕ) × (n : ℕ) × (tied_run.ghost.gets r p ≡ took j n))
    by_state unopened at =
        elim (cases_lt p (ring_slots c)) [
          | inl less ↦ let none = ap is_placed ((base c opening recorded tied_run).drawn.put_first r p less) in absurd (cc)
          | inr first ↦
              elim (cases_lt p c.limit) [
                | inl below ↦ absurd ((reached c tied_run.time tied_run.ghost recorded.state tied_run.trace).reached r p first low below at)
                | inr past ↦ let none = ap is_placed ((base c opening recorded tied_run).drawn.put_limit r p past) in absurd (cc)
              ]
        ]
    by_state (opened j) at = inl (j, at)
    by_state dead at = let none = (base c opening recorded tied_run).booked.never r p at in absurd (cc)
    by_state (took j n) at = inr (j, n, at)

  -- a taken place's put is got by the call that drew it
  get_of : (r p j n : ℕ) (name : PutName) → tied_run.ghost.gets r p ≡ took j n → recorded.placer r p ≡ name
      → IsGetOf recorded.events name (tied_run.tied.since r p) (tied_run.tied.ended r p)
  get_of r p j n name at named =
      let t = tied_run.tied.taken.takes r p j n at in
      let call : IsCall recorded.events j (Get r) (tied_run.tied.since r p) (tied_run.tied.ended r p) (Got name t.content) =
      subst (λ z. IsCall recorded.events j (Get r) (tied_run.tied.since r p) (tied_run.tied.ended r p) (Got z t.content)) named t.call in
      record {
        seat = j;
        queue = r;
        content = t.content;
        call = call;
        first =
            λ d less names.
            let here : Names recorded.events (tied_run.tied.ended r p) name = record { seat = j; content = t.content; ends = call.ends } in
            let same = one_end c opening recorded tied_run d (tied_run.tied.ended r p) name names here in
            omega arith;
      }

  -- an open place's put isn't got
  not_got : (r p j : ℕ) (name : PutName) → tied_run.ghost.gets r p ≡ opened j → is_placed (tied_run.ghost.puts r p) ≡ true → recorded.placer r p ≡ name
      → ¬ IsGot recorded.events name
  not_got r p j name at is named got =
      let n = got.1 in
      let t = taken_at c opening recorded tied_run got.0 n.seat name n.content n.ends in
      let one = tied_run.tied.placed.one t.r t.h r p (ap is_placed t.is) is (t.named ∙ sym named) in
      let clash : tied_run.ghost.gets r p ≡ took n.seat t.number =
      subst (λ q. tied_run.ghost.gets q p ≡ took n.seat t.number) one.0 (subst (λ u. tied_run.ghost.gets t.r u ≡ took n.seat t.number) one.1 t.took) in
      cc

  -- the call that looks at an open place
  starts_at : (r p j : ℕ) → tied_run.ghost.gets r p ≡ opened j → slice_get recorded.events (tied_run.tied.since r p) ≡ Some (Start j (Get r))
  starts_at r p j at =
      let stands = (root c opening recorded tied_run).opens j r p at in
      let now : GetsNow recorded.events j r = rw stands at (tied_run.tied.called.doing j) in
      let under = tied_run.tied.taken.opens r p j at in
      let here = now.under in
      let start : now.s ≡ tied_run.tied.since r p = cc in
      subst (λ s. slice_get recorded.events s ≡ Some (Start j (Get r))) start now.starts

  module _ (queue m : ℕ) (Puts : PutName → Type 0) (ahead : (name : PutName) → Puts name → Ahead queue m name) where
    abbrev Left : PutName → Type 0
    Left name = Puts name × (¬ IsGot recorded.events name)

    abbrev place : (name : PutName) → Left name → ℕ
    place name h = (ahead name h.0).p

    -- a place whose put isn't got is open
    left_open : (name : PutName) (h : Left name) → (j : ℕ) × (tied_run.ghost.gets queue (place name h) ≡ opened j)
    left_open name h =
        let a = ahead name h.0 in
        elim (drawn queue a.p a.is a.low) [
          | inl o ↦ o
          | inr t ↦
              let get = get_of queue a.p t.0 t.1 name t.2 a.named in
              absurd (h.1 (tied_run.tied.ended queue a.p, record { seat = get.seat; content = get.content; ends = get.call.ends }))
        ]

    claimed : (name : PutName) → Puts name → IsClaimed recorded.events m name
    claimed name h =
        let a = ahead name h in
        elim (drawn queue a.p a.is a.low) [
          | inl o ↦ inr (not_got queue a.p o.0 name o.1 a.is a.named)
          | inr t ↦
              inl
              (record {
                s = tied_run.tied.since queue a.p;
                e = tied_run.tied.ended queue a.p;
                before = a.before;
                get = get_of queue a.p t.0 t.1 name t.2 a.named;
              })
        ]

    pub all_claimed : AllClaimed recorded.events queue m Puts
    all_claimed =
        record {
          claimed = claimed;
          matched =
              record {
                partner = λ name h. tied_run.tied.since queue (place name h);
                into =
                    λ name h.
                    let o = left_open name h in
                    record {
                      seat = o.0;
                      starts = starts_at queue (place name h) o.0 o.1;
                      before = (ahead name h.0).before;
                      under_way_still = tied_run.tied.taken.opens queue (place name h) o.0 o.1;
                    };
                one_to_one =
                    λ x y h k same.
                    let a = left_open x h in
                    let b = left_open y k in
                    let x_starts = starts_at queue (place x h) a.0 a.1 in
                    let y_starts : slice_get recorded.events (tied_run.tied.since queue (place x h)) ≡ Some (Start b.0 (Get queue)) =
                    rw same (starts_at queue (place y k) b.0 b.1) in
                    let seat : a.0 ≡ b.0 = cc in
                    let x_stands = (root c opening recorded tied_run).opens a.0 queue (place x h) a.1 in
                    let y_stands : stance recorded.state a.0 ≡ trying queue (place y k) =
                    rw seat ((root c opening recorded tied_run).opens b.0 queue (place y k) b.1) in
                    let one : place x h ≡ place y k = cc in
                    sym (ahead x h.0).named ∙ ap (recorded.placer queue) one ∙ (ahead y k.0).named;
              };
        }
