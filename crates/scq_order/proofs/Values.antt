-- What goes through a queue: a value is put between two numbers and got between two others. One that
-- nobody got is got at a number above all; a Nothing is a value that is put and got at one moment
use Rattle.std.specs.Prelude.{ℕ, ◌≤◌, ◌⊎◌, List, [], ◌∷◌, Option}
use Rattle.scq_hist.specs.Exports.{StandsIn, Distinct}
use Rattle.scq_hist.specs.declared.events.PutName.{PutName}
use Rattle.scq_order.specs.Exports.{Member}

-- `source` puts it, or is the get that finds nothing; `taker` is where the get of it starts
pub record Value : Type 0 where
  pub source : Member
  pub taker : Option ℕ
  pub entry : PutName × List ℕ
  pub put_from : ℕ
  pub put_till : ℕ
  pub got_from : ℕ
  pub got_till : ℕ

-- trimmed: the put can't begin after its get, nor end after it
pub record IsTrimmed (v : Value) : Type 0 where
  pub put : v.put_from ≤ v.put_till
  pub got : v.got_from ≤ v.got_till
  pub begins : v.put_from ≤ v.got_from
  pub ends : v.put_till ≤ v.got_till

-- u may go through the queue before v
pub record MayLead (u v : Value) : Type 0 where
  pub put : u.put_from ≤ v.put_till
  pub got : u.got_from ≤ v.got_till

-- it is not so that u was put before v and v got before u
abbrev pub Agree : Value → Value → Type 0
Agree u v = (v.put_from ≤ u.put_till) ⊎ (u.got_from ≤ v.got_till)

-- each of the list is trimmed, and any two agree
pub record AreFair (vs : List Value) : Type 0 where
  pub trimmed : (v : Value) → StandsIn vs v → IsTrimmed v
  pub agree : (u v : Value) → StandsIn vs u → StandsIn vs v → Agree u v

-- each may lead all after it
abbrev pub AreInOrder : List Value → Type 0
AreInOrder [] = Unit {0}
AreInOrder (v ∷ vs) = ((w : Value) → StandsIn vs w → MayLead v w) × AreInOrder vs

-- the list has the same members, each once, in order
pub record IsOrdering (vs ws : List Value) : Type 0 where
  pub to : (v : Value) → StandsIn vs v → StandsIn ws v
  pub from : (v : Value) → StandsIn ws v → StandsIn vs v
  pub distinct : Distinct ws
  pub ordered : AreInOrder ws
