use Rattle.std.proofs.Common.{◌≡◌, ◌∙◌, ◌≤◌, ℕ, List, [], ◌∷◌, ◌++◌, All, append_assoc, length, reverse, sym, ap, subst, arith}
use Rattle.std.proofs.lemmas.List.{reverse-append, reverse-reverse}
use Rattle.std.proofs.lemmas.List.Elements.{All-nil, All-push}
use Rattle.scq_park.specs.declared.rested.Rested.{Rested}
use Rattle.scq_park.specs.Exports.{counted, rested_of, ParkerDeeds, CanEnd, EachEnds, rests_between}
use Rattle.scq_park.proofs.closing.all_ended.Goals as goal

abbrev WasWoken : Rested → Type 0
WasWoken r = r.rests ≤ r.wakes

both-ends : (ws vs os ps : List ParkerDeeds) → ws ≡ vs → os ≡ ps → EachEnds vs ps → EachEnds ws os
both-ends ws vs os ps same_ws same_os ends = subst (λ (xs : List ParkerDeeds). EachEnds xs os) (sym same_ws) (subst (EachEnds vs) (sym same_os) ends)

both-rest : (ws vs os ps : List ParkerDeeds) → ws ≡ vs → os ≡ ps → rests_between ws os ≡ rests_between vs ps
both-rest ws vs os ps same_ws same_os = ap (λ (xs : List ParkerDeeds). rests_between xs os) same_ws ∙ ap (rests_between vs) same_os

-- the last of a list is the first of it turned round
turned : (all left : List ParkerDeeds) (x : ParkerDeeds) → all ≡ left ++ x ∷ [] → reverse all ≡ x ∷ reverse left
turned all left x is = ap reverse is ∙ reverse-append left (x ∷ [])

last-ends : (ws left os behind : List ParkerDeeds) (w o : ParkerDeeds) → ws ≡ left ++ w ∷ [] → os ≡ behind ++ o ∷ [] → EachEnds (reverse ws) (reverse os)
    → CanEnd w o × EachEnds (reverse left) (reverse behind)
last-ends ws left os behind w o is_ws is_os ends = both-ends _ _ _ _ (sym (turned ws left w is_ws)) (sym (turned os behind o is_os)) ends

abbrev counts : ℕ → ℕ → Rested
counts n m = record { rests = n; wakes = m }

told-so : (r : Rested) (n m : ℕ) → r.rests ≡ counted n → r.wakes ≡ counted m → r ≡ rested_of n m
told-so r n m rests wakes = ap (λ (k : ℕ). counts k r.wakes) rests ∙ ap (counts (counted n)) wakes

pub loop-own-init : goal.loop-own-init
loop-own-init c =
    let ws = ap reverse c.reverse.ensures.items ∙ reverse-reverse c.args.wakers.items in
    let os = ap reverse c.reverse-2.ensures.items ∙ reverse-reverse c.args.owns.items in
    let empty = c.requires.empty in (
      both-ends _ _ _ _ ws os c.requires.ends,
      ap (λ (rs : List Rested). rs ++ rests_between (reverse c.reverse.new.self.items) (reverse c.reverse-2.new.self.items)) empty ∙ both-rest _ _ _ _ ws os,
      omega (arith, c.requires.room, c.reverse-2.ensures.len, ap length empty, c.args.rested.ok),
      subst (All WasWoken) (sym empty) (All-nil WasWoken),
    )

pub end-requires : goal.end-requires
end-requires c =
    let ends = last-ends _ _ _ _ _ _ c.in-Some-pop.ensures.items c.in-Some.ensures.items c.loop-own.invariant.0 in
    record { own = ends.0.0; all = ends.0.1; one = ends.0.2 }

pub loop-own-preserved : goal.loop-own-preserved
loop-own-preserved c =
    let inv = c.loop-own.invariant in
    let before : List Rested = c.loop-own.rested.items in
    let own : ParkerDeeds = c.in-Some.own in
    let waker : ParkerDeeds = c.in-Some-pop.waker in
    let left = reverse c.pop-in-Some.new.self.items in
    let behind = reverse c.pop.new.self.items in
    let rest = rests_between left behind in
    let rested = told-so c.end.result own.deeds.rested waker.deeds.woke c.end.ensures.counts.0 c.end.ensures.counts.1 in
    let next = both-rest _ _ _ _ (turned _ _ _ c.in-Some-pop.ensures.items) (turned _ _ _ c.in-Some.ensures.items) in (
      (last-ends _ _ _ _ _ _ c.in-Some-pop.ensures.items c.in-Some.ensures.items inv.0).1,
      ap (λ (rs : List Rested). rs ++ rest) c.push_reserved.ensures.items
          ∙ append_assoc before (c.end.result ∷ []) rest
          ∙ ap (λ (r : Rested). before ++ (r ∷ rest)) rested
          ∙ ap (λ (rs : List Rested). before ++ rs) (sym next)
          ∙ inv.1,
      (let room = inv.2 in
          let less = c.in-Some.ensures.len in
          let more = c.push_reserved.ensures.len in
          let same = c.push_reserved.ensures.capacity in
          omega arith),
      subst (All WasWoken) (sym c.push_reserved.ensures.items) (All-push WasWoken before c.end.result inv.3 c.end.ensures.woken),
    )
