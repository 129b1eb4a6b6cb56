-- Each event keeps the cover and the book. Plan: an index that has gone past a drawn ticket stays past it, and one that
-- stands earlier in its slot stays there or goes to a hand; what a new failure found stands earlier in its slot, since a
-- whole round of the ring later would be past the window.
use Rattle.std.proofs.Common.{◌≡◌, ◌≢◌, ℕ, ◌+◌, ◌<◌, ◌≤◌, ◌⊎◌, true, inl, inr, ap, sym, ◌∙◌, arith}
use Rattle.std.proofs.lemmas.Bool.{cases_lt, cases_order}
use Rattle.scq_word.specs.declared.setup.Setup.{Setup}
use Rattle.scq_word.proofs.TicketLemmas.{earlier_cycle, lower_ticket}
use Rattle.scq_core.specs.Exports.{Entries, ring_slots, slot}
use Rattle.scq_law.proofs.Base.Ghosts.{Ghost, PutState, fresh, pending, failed, placed, waiting}
use Rattle.scq_law.proofs.Base.BaseGroup.{IsBooked, IsDrawn}
use Rattle.scq_law.proofs.Window.FailedTickets.{StandsAtMostOnce, TicketsAreDrawn, IsAfter, Bars, FailedTickets, IsWindow}
use Rattle.scq_law.proofs.Window.TicketFlows.{Fails, Flows, HeadAndTailAdvance}

-- tickets of one slot are a round of the ring apart
turn_apart : (c : Setup) (t u : ℕ) → slot c t ≡ slot c u → t < u → t + ring_slots c ≤ u
turn_apart c t u slot less = earlier_cycle c.order t u slot (lower_ticket c.order t u slot less)

pub covered_step : (c : Setup) (g h : Ghost) (tail head tail' head' : ℕ → ℕ) (time : ℕ) → Flows c g tail head time h → HeadAndTailAdvance c tail head tail' head' h
    → TicketsAreDrawn c g tail head → TicketsAreDrawn c h tail' head'
covered_step c g h tail head tail' head' time flows advances was =
    record {
      covered =
          λ r t high below below_limit.
          let rises = advances.heads r in
          elim (advances.drawn r t high below below_limit) [
            | inl old ↦ flows.drawn r t (was.covered r t (omega arith) old below_limit)
            | inr new ↦ new
          ];
    }

module _ (c : Setup) (e : Entries) (g h : Ghost) (tail head head' : ℕ → ℕ) (time : ℕ) (flows : Flows c g tail head time h) (rises : (r : ℕ) → head r ≤ head' r)
    (booked : IsBooked c e g) (drawn : IsDrawn c tail head g) (alone : StandsAtMostOnce c g) (window : IsWindow c tail head) (book : FailedTickets c g head time) where
  -- a drawn ticket is below Tail and the limit, and in the window
  below : (r t : ℕ) (x : PutState) → g.puts r t ≡ x → x ≢ fresh → t < tail r
  below r t x is some =
      elim (cases_lt t (tail r)) [
        | inl less ↦ less
        | inr high ↦ absurd (some (sym is ∙ drawn.tails r t high))
      ]

  below_limit : (r t : ℕ) (x : PutState) → g.puts r t ≡ x → x ≢ fresh → t < c.limit
  below_limit r t x is some =
      elim (cases_lt t c.limit) [
        | inl less ↦ less
        | inr high ↦ absurd (some (sym is ∙ drawn.put_limit r t high))
      ]

  near : (r t : ℕ) (x : PutState) → g.puts r t ≡ x → x ≢ fresh → t + 2 ≤ head r + ring_slots c
  near r t x is some = window.within r t (below r t x is some) (below_limit r t x is some)

  after_stays : (r x t : ℕ) → t < tail r → IsAfter g r x t → IsAfter h r x t
  after_stays r x t low after =
      record {
        waits =
            λ s k is.
            elim (flows.waits r s k x is) [
              | inl old ↦ after.waits s k old
              | inr new ↦ omega arith
            ];
        lies =
            λ p live.
            elim (flows.lies r p x live) [
              | inl old ↦ after.lies p old
              | inr new ↦ after.waits p new.0 new.1
            ];
      }

  bars_stays : (r t b : ℕ) → t < tail r → Bars c g r t b → Bars c h r t b ⊎ IsAfter h r b t
  bars_stays r t b low bars =
      let there = bars.live in
      elim (flows.stays r bars.place b there) [
        | inl still ↦ inl (record { place = bars.place; earlier = bars.earlier; slot = bars.slot; live = still })
        | inr over ↦
            inr
            (record {
              waits =
                  λ s k is.
                  elim (flows.waits r s k b is) [
                    | inl old ↦ absurd (alone.apart r s bars.place k b old there)
                    | inr new ↦ omega arith
                  ];
              lies =
                  λ p live.
                  elim (flows.lies r p b live) [
                    | inl old ↦
                        let one = alone.lives r p bars.place b old there in
                        let waits : waiting (h.gets r bars.place) ≡ true = rw one at live.waits in
                        absurd (cc)
                    | inr new ↦ absurd (alone.apart r p bars.place new.0 b new.1 there)
                  ];
            })
      ]

  -- what a new failure found stands earlier in the slot
  new_bars : (r t y d b : ℕ) → Fails c g head time r t y d b → head r ≤ t → Bars c g r t b
  new_bars r t y d b fails high =
      elim fails.cause [
        | inl past ↦ absurd (omega arith)
        | inr blocks ↦
            let live = blocks.live in
            elim (cases_order blocks.place t) [
              | inl same ↦ absurd (blocks.other same)
              | inr order ↦
                  elim order [
                    | inl earlier ↦ record { place = blocks.place; earlier = earlier; slot = blocks.slot; live = live }
                    | inr later ↦
                        let turn = turn_apart c t blocks.place (sym blocks.slot) later in
                        let far = near r blocks.place (placed b live.content live.maker) live.is (λ is. absurd (cc)) in
                        absurd (omega arith)
                  ]
            ]
      ]

  -- an index that stands earlier in the slot of a ticket of the window has gone past no other of its tickets
  bar_past : (r s t b : ℕ) → head r ≤ s → t + 2 ≤ head r + ring_slots c → IsAfter g r b s → Bars c g r t b → ⊥
  bar_past r s t b high close after bars =
      let over = after.lies bars.place bars.live in
      let earlier = bars.earlier in
      let turn = turn_apart c bars.place t bars.slot earlier in
      omega arith

  -- and stands in no other ticket's slot
  bar_bar : (r s t b : ℕ) → head r ≤ s → head r ≤ t → s + 2 ≤ head r + ring_slots c → t + 2 ≤ head r + ring_slots c → s ≢ t → Bars c g r s b → Bars c g r t b
      → ⊥
  bar_bar r s t b low high near_s near_t other first second =
      let one = alone.lives r first.place second.place b first.live second.live in
      let slot : slot c s ≡ slot c t = sym first.slot ∙ ap (slot c) one ∙ second.slot in
      elim (cases_order s t) [
        | inl same ↦ other same
        | inr order ↦
            elim order [
              | inl less ↦ let turn = turn_apart c s t slot less in omega arith
              | inr more ↦ let turn = turn_apart c t s (sym slot) more in omega arith
            ]
      ]

  -- a failed ticket at or past Head before the event
  record Noted (r t y d b : ℕ) : Type 0 where
    drawn_low : t < tail r
    close : t + 2 ≤ head r + ring_slots c
    high : head r ≤ t
    stood : Bars c g r t b ⊎ IsAfter g r b t
    was : (g.puts r t ≡ failed y d b) ⊎ (Fails c g head time r t y d b × Bars c g r t b)

  noted : (r t y d b : ℕ) → h.puts r t ≡ failed y d b → head' r ≤ t → Noted r t y d b
  noted r t y d b is over =
      let up = rises r in
      let high : head r ≤ t = omega arith in
      elim (flows.fails r t y d b is) [
        | inl old ↦
            record {
              drawn_low = below r t (failed y d b) old (λ e. absurd (cc));
              close = near r t (failed y d b) old (λ e. absurd (cc));
              high = high;
              stood = book.blocked r t y d b old high;
              was = inl old;
            }
        | inr new ↦
            let bars = new_bars r t y d b new high in
            record {
              drawn_low = below r t (pending new.seat d) new.pending (λ e. absurd (cc));
              close = near r t (pending new.seat d) new.pending (λ e. absurd (cc));
              high = high;
              stood = inl bars;
              was = inr (new, bars);
            }
      ]

  -- an index that stands earlier in the slot of one was found by no other
  found_apart : (r t y d b s z f i : ℕ) → Noted r t y d b → Noted r s z f i → t ≢ s → Bars c g r s i → b ≢ i
  found_apart r t y d b s z f i one two other bars same =
      let low = one.high in
      let high = two.high in
      elim one.stood [
        | inl first ↦ bar_bar r t s i one.high two.high one.close two.close other (rw same at first) bars
        | inr after ↦ bar_past r t s i one.high two.close (rw same at after) bars
      ]

module _ (c : Setup) (e : Entries) (g h : Ghost) (tail head head' : ℕ → ℕ) (time : ℕ) (flows : Flows c g tail head time h) (rises : (r : ℕ) → head r ≤ head' r)
    (booked : IsBooked c e g) (drawn : IsDrawn c tail head g) (alone : StandsAtMostOnce c g) (window : IsWindow c tail head) (book : FailedTickets c g head time) where
  pub book_step : FailedTickets c h head' (time + 1)
  book_step =
      record {
        made =
            λ r t y d b is.
            elim (flows.fails r t y d b is) [
              | inl old ↦ let low = book.made r t y d b old in omega arith
              | inr new ↦ let at = new.at in omega arith
            ];
        small =
            λ r t y d b is over.
            let note = noted c e g h tail head head' time flows rises booked drawn alone window book r t y d b is over in
            elim note.was [
              | inl old ↦ book.small r t y d b old note.high
              | inr new ↦
                  let live = new.1.live in
                  let stands = booked.stands r new.1.place b live.content live.maker live.is live.waits in
                  (alone.low r t new.0.seat d new.0.pending, stands.small)
            ];
        blocked =
            λ r t y d b is over.
            let note = noted c e g h tail head head' time flows rises booked drawn alone window book r t y d b is over in
            elim note.stood [
              | inl bars ↦ bars_stays c e g h tail head head' time flows rises booked drawn alone window book r t b note.drawn_low bars
              | inr after ↦ inr (after_stays c e g h tail head head' time flows rises booked drawn alone window book r b t note.drawn_low after)
            ];
        drawer =
            λ r t y d b is over.
            let note = noted c e g h tail head head' time flows rises booked drawn alone window book r t y d b is over in
            let low = note.drawn_low in
            elim note.was [
              | inl old ↦
                  after_stays c e g h tail head head' time flows rises booked drawn alone window book r d t note.drawn_low (book.drawer r t y d b old note.high)
              | inr new ↦
                  let mine = new.0.pending in
                  record {
                    waits =
                        λ s k there.
                        elim (flows.waits r s k d there) [
                          | inl old ↦
                              let one = alone.pends r s t k new.0.seat d old mine in
                              let here : h.puts r t ≡ pending k d = rw one at there in
                              absurd (cc)
                          | inr tail_low ↦ omega arith
                        ];
                    lies =
                        λ p live.
                        elim (flows.lies r p d live) [
                          | inl old ↦ absurd (alone.apart r t p new.0.seat d mine old)
                          | inr waited ↦
                              let one = alone.pends r p t waited.0 new.0.seat d waited.1 mine in
                              let here : h.puts r t ≡ placed d live.content live.maker = rw one at live.is in
                              absurd (cc)
                        ];
                  }
            ];
        apart =
            λ r t y d b s z f i is so over high other same.
            let one = noted c e g h tail head head' time flows rises booked drawn alone window book r t y d b is over in
            let two = noted c e g h tail head head' time flows rises booked drawn alone window book r s z f i so high in
            elim two.was [
              | inl old ↦ elim one.was [
                | inl older ↦ book.apart r t y d b s z f i older old one.high two.high other same
                | inr new ↦
                    found_apart c e g h tail head head' time flows rises booked drawn alone window book r s z f i t y d b two one
                    (λ e. other (sym e)) new.1 (sym same)
              ]
              | inr new ↦ found_apart c e g h tail head head' time flows rises booked drawn alone window book r t y d b s z f i one two other new.1 same
            ];
        other =
            λ r t y d b s z f i is so over high order same.
            let one = noted c e g h tail head head' time flows rises booked drawn alone window book r t y d b is over in
            let two = noted c e g h tail head head' time flows rises booked drawn alone window book r s z f i so high in
            elim two.was [
              | inl old ↦
                  elim one.was [
                    | inl older ↦ book.other r t y d b s z f i older old one.high two.high order same
                    | inr new ↦ let made = book.made r s z f i old in let at = new.0.at in omega arith
                  ]
              | inr new ↦
                  elim one.was [
                    | inl older ↦
                        bar_past c e g h tail head head' time flows rises booked drawn alone window book r t s i one.high two.close
                        (rw same at (book.drawer r t y d b older one.high)) new.1
                    | inr newer ↦ alone.apart r t new.1.place newer.0.seat d newer.0.pending (rw (← same) at new.1.live)
                  ]
            ];
      }
