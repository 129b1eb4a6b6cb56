-- What the first event that breaks an aspect stands against
use Rattle.std.specs.Prelude.{◌≡◌, ℕ, ◌<◌, ◌≤◌, ◌^◌, List, Option, Some, None, length}
use Rattle.scq_hist.specs.Exports.{Names, IsFirstNamed, NoPutBefore, IsPutGotAt, IsEmptyAt}
use Rattle.scq_hist.specs.declared.events.Event.{Event}
use Rattle.scq_hist.specs.declared.events.PutName.{PutName}
use Rattle.scq_hist.specs.declared.events.PutName.TheVariants.{Opening, Of}
use Rattle.scq_check.specs.Puts.{StartsPut}
use Rattle.scq_check.specs.Refused.{IsSpentAt}
use Rattle.scq_check.specs.Waiting.{AreWaiting}
use Rattle.scq_check.specs.declared.counterparts.Origin.{Origin}
use Rattle.scq_check.specs.declared.counterparts.Origin.TheVariants.{Nobody, Token, Start}
use Rattle.scq_check.specs.declared.waiting.Waiting.{Waiting}

-- where the put of this name was put: by nobody in the whole list, or it is the opening token of
-- this number, or its Start stands there
abbrev pub IsOrigin : List (List ℕ) → List Event → PutName → Origin → Type 0
IsOrigin opening events (Opening number) Nobody = length opening ≤ number
IsOrigin opening events (Opening number) (Token token) =
    (token ≡ number) × (number < length opening)
IsOrigin opening events (Opening number) (Start s) = ⊥
IsOrigin opening events (Of seat number) Nobody = NoPutBefore events seat number (length events)
IsOrigin opening events (Of seat number) (Token token) = ⊥
IsOrigin opening events (Of seat number) (Start s) = StartsPut events seat number s

-- fresh, and in order: the Got at position e names a put, and this is where that was put
pub record IsOfOrigin (opening : List (List ℕ)) (events : List Event) (e : ℕ)
    (origin : Origin) : Type 0 where
  pub name : PutName
  pub named : Names events e name
  pub is : IsOrigin opening events name origin

-- For private calls: the event at position e names no put
abbrev pub NamesNone : List Event → ℕ → Type 0
NamesNone events e = (name : PutName) → ¬ Names events e name

-- what is told of it stands below position m
abbrev pub IsOriginWithin : ℕ → Origin → Type 0
IsOriginWithin m Nobody = Unit {0}
IsOriginWithin m (Token token) = token < 2 ^ 32
IsOriginWithin m (Start s) = s < m

-- once: the Got at position e names a put that was named before, first at position d
pub record IsRepeatOf (events : List Event) (e d : ℕ) : Type 0 where
  pub name : PutName
  pub again : Names events e name
  pub first : IsFirstNamed events name d

-- in order: the get that ends at position e has got a put, and these that were finished when that
-- put started wait for gets
pub record IsOvertaking (opening : List (List ℕ)) (events : List Event) (e : ℕ)
    (waiting : Waiting) : Type 0 where
  pub queue : ℕ
  pub start : ℕ
  pub got : IsPutGotAt events e queue start
  pub waits : AreWaiting opening events queue start e waiting

-- empty: the get that ends at position e has found nothing, and these that were finished by then
-- wait for gets
pub record IsEmptyBeside (opening : List (List ℕ)) (events : List Event) (e : ℕ)
    (waiting : Waiting) : Type 0 where
  pub queue : ℕ
  pub start : ℕ
  pub empty : IsEmptyAt events e queue start
  pub waits : AreWaiting opening events queue e e waiting

-- refused: the Got at position e names a put that ended with Spent at position d
pub record IsOfRefused (events : List Event) (e d : ℕ) : Type 0 where
  pub seat : ℕ
  pub number : ℕ
  pub named : Names events e (Of seat number)
  pub spent : IsSpentAt events seat number d

-- P of the first event and of what is told beside it; nothing is told where there is none
abbrev pub AtFirst : {X : Type 0} → (ℕ → X → Type 0) → Option ℕ → Option X → Type 0
AtFirst P None told = told ≡ None
AtFirst P (Some e) None = ⊥
AtFirst P (Some e) (Some x) = P e x
