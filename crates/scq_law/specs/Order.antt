-- The one-thread order of a run in which every call has ended, for one of its rings: the opening
-- puts and the calls in order of their points, at one point a Nothing first, then puts by place,
-- then gets by place. And what it promises.
use Rattle.std.specs.Prelude.{◌≡◌, ◌⊎◌, ℕ, ◌+◌, ◌<◌, ◌≤◌, List, [], ◌∷◌, ◌++◌, Some, slice_get}
use Rattle.std.specs.Prelude.{slice_index_or}
use Rattle.std.specs.List.{Contains}
use Rattle.scq_word.specs.Exports.{n_of}
use Rattle.scq_core.specs.declared.ended.Ended.{Ended}
use Rattle.scq_core.specs.declared.ended.Ended.TheVariants.{Done, Got, Nothing}
use Rattle.scq_core.specs.Exports.{ring_slots}
use Rattle.scq_hist.specs.declared.events.PutName.{PutName}
use Rattle.scq_hist.specs.declared.events.PutName.TheVariants.{Opening as Token}
use Rattle.scq_law.specs.Run.{recorded_reply}
use Rattle.scq_law.specs.declared.ordered.Ordered.{Ordered}
use Rattle.scq_law.specs.declared.ordered.Ordered.TheVariants.{Opening, Call}
use Rattle.scq_law.specs.RunSteps.{Run, IsStepOf, HasEnded, recorded_last, last_state}
use Rattle.scq_law.specs.Points.{IsDecidingStep, IsPutPoint, IsGetPoint}
use Rattle.scq_law.specs.Plain.{plain_reply, plain_after, call_of_ended, name_of_put}

-- what the order goes by: the point, then a Nothing (0), a put (1) or a get (2), then the place
pub record Key : Type 0 where
  pub point : ℕ
  pub kind : ℕ
  pub place : ℕ

abbrev pub key : ℕ → ℕ → ℕ → Key
key point kind place = record { point = point; kind = kind; place = place }

pub record IsEarlier (f g : Key) : Type 0 where
  pub before : (f.point < g.point)
      ⊎ ((f.point ≡ g.point) × ((f.kind < g.kind) ⊎ ((f.kind ≡ g.kind) × (f.place < g.place))))

-- what is ordered for ring r, each with its key: the opening puts, and the calls that ended
-- otherwise than with Spent. A call is named by its seat and its number, which counts the seat's
-- ended calls from 1
pub data HasKey (run : Run) (r : ℕ) : Ordered → Key → Type 0 where
  of_opening : (j : ℕ) → r ≡ 0 → j < n_of run.setup.order
      → HasKey run r (Opening j) (key 0 1 (ring_slots run.setup + j))
  of_nothing : (seat call d : ℕ) → HasEnded run seat call (Nothing r)
      → IsDecidingStep run d seat call r → HasKey run r (Call seat (call + 1)) (key (d + 1) 0 0)
  of_put : (seat call p point : ℕ) (w : List ℕ) → HasEnded run seat call (Done r p w)
      → IsPutPoint run seat call r p point
      → HasKey run r (Call seat (call + 1)) (key point 1 p)
  of_get : (seat call p point : ℕ) (w : List ℕ) → HasEnded run seat call (Got r p w)
      → IsGetPoint run seat r p point
      → HasKey run r (Call seat (call + 1)) (key point 2 p)

-- a call of ring r that ended otherwise than with Spent
pub data IsOrderable (run : Run) (r seat call : ℕ) : Type 0 where
  by_done : (p : ℕ) (w : List ℕ) → HasEnded run seat call (Done r p w) → IsOrderable run r seat call
  by_got : (p : ℕ) (w : List ℕ) → HasEnded run seat call (Got r p w) → IsOrderable run r seat call
  by_nothing : HasEnded run seat call (Nothing r) → IsOrderable run r seat call

-- this list is the order for ring r
pub record IsLinearization (run : Run) (r : ℕ) (order : List Ordered) : Type 0 where
  -- each such call stands in it, and on ring 0 each opening put
  pub calls : (seat call : ℕ) → IsOrderable run r seat call → Contains order (Call seat (call + 1))
  pub openings : (j : ℕ) → r ≡ 0 → j < n_of run.setup.order → Contains order (Opening j)
  -- nothing else does: each member has a key
  pub only : (x : Ordered) → Contains order x → (f : Key) × HasKey run r x f
  -- and stands before those of later keys
  pub sorted : (a b : ℕ) (x y : Ordered) (f g : Key) → a < b → slice_get order a ≡ Some x
      → slice_get order b ≡ Some y → HasKey run r x f → HasKey run r y g
      → IsEarlier f g

-- What the order promises.

-- every step of the one call was made before every step of the other
abbrev pub EndedBefore : Run → ℕ → ℕ → ℕ → ℕ → Type 0
EndedBefore run seat call k x = (i j : ℕ) → IsStepOf run i seat call → IsStepOf run j k x → i < j

-- a point lies between the first and the last step of a call
pub record LiesWithin (run : Run) (seat call point : ℕ) : Type 0 where
  pub first : ℕ
  pub is_first : IsStepOf run first seat call
  pub after : first + 1 ≤ point
  pub last : ℕ
  pub is_last : IsStepOf run last seat call
  pub before : point ≤ last + 1

-- along the list each call's reply is what a plain queue replies, which holds these puts at first
abbrev pub AnswersPlainly : Run → List (PutName × List ℕ) → List Ordered → Type 0
AnswersPlainly run queue [] = Unit {0}
AnswersPlainly run queue (Opening j ∷ order) =
    AnswersPlainly run (queue ++ (Token j, slice_index_or run.opening j []) ∷ []) order
AnswersPlainly run queue (Call seat number ∷ order) =
    (call : ℕ) × (ended : Ended) × (number ≡ call + 1) × HasEnded run seat call ended
    × (recorded_reply (recorded_last run).placer ended ≡ plain_reply queue (call_of_ended ended))
    × AnswersPlainly run
    (plain_after queue (name_of_put ((last_state run).part seat).calls seat call)
    (call_of_ended ended)) order

-- the calls of a ring, but those that ended with Spent, and its opening puts stand in this list,
-- each once, in an order that keeps each behind those that ended before it began, and in which
-- every reply is a plain queue's
pub record IsOneOrder (run : Run) (r : ℕ) (order : List Ordered) : Type 0 where
  -- each put and get of the ring that did not end with Spent stands in the list, and each opening
  -- put, and nothing else
  pub calls : (seat call : ℕ) → IsOrderable run r seat call → Contains order (Call seat (call + 1))
  pub openings : (j : ℕ) → r ≡ 0 → j < n_of run.setup.order → Contains order (Opening j)
  pub only_calls : (seat number : ℕ) → Contains order (Call seat number)
      → (call : ℕ) × (number ≡ call + 1) × IsOrderable run r seat call
  pub only_openings : (j : ℕ) → Contains order (Opening j) → (r ≡ 0) × (j < n_of run.setup.order)
  -- once
  pub once : (a b : ℕ) (x : Ordered) → slice_get order a ≡ Some x → slice_get order b ≡ Some x
      → a ≡ b
  -- the opening puts stand first
  pub first : (a b j seat number : ℕ) → slice_get order a ≡ Some (Opening j)
      → slice_get order b ≡ Some (Call seat number) → a < b
  -- in the order of their numbers
  pub ascend : (a b i j : ℕ) → i < j → slice_get order a ≡ Some (Opening i)
      → slice_get order b ≡ Some (Opening j) → a < b
  -- a call that ended before another started stands before it
  pub real_time : (a b seat call k x : ℕ) → slice_get order a ≡ Some (Call seat (call + 1))
      → slice_get order b ≡ Some (Call k (x + 1))
      → EndedBefore run seat call k x → a < b
  -- each point lies between its call's first and last step
  pub points : (seat call : ℕ) (f : Key) → HasKey run r (Call seat (call + 1)) f
      → LiesWithin run seat call f.point
  -- each reply is the plain queue's
  pub plain : AnswersPlainly run [] order
