-- What a port's call answered, and what became of the port: the clauses of `scq_port`'s call of
-- this name, together.
use Rattle.std.specs.Prelude.{◌≡◌, ℕ, suc, None, Result, Err, IfOk}
use Rattle.scq_port.specs.declared.refusals.LendRefusal.{LendRefusal}
use Rattle.scq_port.specs.declared.refusals.TakeRefusal.{TakeRefusal}
use Rattle.scq_port.specs.declared.refusals.SendRefusal.{SendRefusal}
use Rattle.scq_port.specs.declared.refusals.GiveBackRefusal.{GiveBackRefusal}
use Rattle.scq_port.specs.declared.refusals.LendRefusal.TheVariants as lend
use Rattle.scq_port.specs.declared.refusals.TakeRefusal.TheVariants as take
use Rattle.scq_port.specs.declared.refusals.SendRefusal.TheVariants as send
use Rattle.scq_port.specs.declared.refusals.GiveBackRefusal.TheVariants as give_back
use Rattle.scq_port.specs.Exports.{PortStanding, IsLent, ValueIsTaken, IsSent, ValueIsGivenBack}
use Rattle.scq_port.specs.Exports.{WasFull, WasEmpty, IsSpentGet, IsSpentPut, HasNoRoom, HasTopic}
use Rattle.scq_port.specs.Exports.{HasNoTopic, HoldsNoSuch, PortHasRetired}

-- a lend
pub record LendAnswered (answer : Result ℕ LendRefusal) (old new : PortStanding) : Type 0 where
  pub lent : IfOk answer (λ index. IsLent index old new)
  pub no_room : answer ≡ Err lend.NoRoom → HasNoRoom old new
  pub full : (head : ℕ) → answer ≡ Err (lend.Full head) → WasFull head old new
  pub spent : (ticket : ℕ) → answer ≡ Err (lend.Spent ticket) → IsSpentGet 0 ticket old new

-- a take from a topic
pub record TakeAnswered (topic : ℕ) (answer : Result (ℕ × ℕ) TakeRefusal) (old new : PortStanding)
    : Type 0 where
  pub taken : IfOk answer (λ r. ValueIsTaken topic r.0 r.1 old new)
  pub no_topic : answer ≡ Err take.NoTopic → HasNoTopic topic old new
  pub no_room : answer ≡ Err take.NoRoom → HasNoRoom old new × HasTopic topic old
  pub empty : (head : ℕ) → answer ≡ Err (take.Empty head) → WasEmpty topic head old new
  pub spent : (ticket : ℕ) → answer ≡ Err (take.Spent ticket)
      → IsSpentGet (suc topic) ticket old new

-- a send of the value of an index on a topic
pub record SendAnswered (index topic : ℕ) (answer : Result ℕ SendRefusal) (old new : PortStanding)
    : Type 0 where
  pub sent : IfOk answer (λ place. IsSent index topic place old new)
  pub no_topic : answer ≡ Err send.NoTopic → HasNoTopic topic old new
  pub retired : answer ≡ Err send.Retired → PortHasRetired old new × HasTopic topic old
  pub not_held : answer ≡ Err send.NotHeld
      → HoldsNoSuch index old new × HasTopic topic old × (old.pass.retired ≡ None)
  pub spent : (ticket : ℕ) → answer ≡ Err (send.Spent ticket)
      → IsSpentPut (suc topic) ticket old new

-- a give-back of the value of an index
pub record GiveBackAnswered (index : ℕ) (answer : Result Unit GiveBackRefusal)
    (old new : PortStanding) : Type 0 where
  pub given : IfOk answer (λ _. ValueIsGivenBack index old new)
  pub not_held : answer ≡ Err give_back.NotHeld → HoldsNoSuch index old new
  pub spent : (ticket : ℕ) → answer ≡ Err (give_back.Spent ticket) → IsSpentPut 0 ticket old new
