-- Which frame is which, and where it lies.
use Rattle.std.specs.Prelude.{◌≡◌, refl, ℕ, ◌*◌, ◌<◌, List, length, replicate, slice_index_or}
use Rattle.std.specs.List.{All}
use Rattle.std.specs.Vec.{with_items}
use Rattle.std.proofs.Common.{sym, ◌∙◌}
use denote.RawPtr.{Ptr, ◌+ₚ◌}
use Rattle.scq_block.specs.declared.frame.Frame.{Frame}

-- what a frame holds
abbrev pub bytes_of : Frame → List ℕ
bytes_of f = f.bytes.items

-- where its bytes begin
abbrev pub frame_start : Frame → Ptr
frame_start f = f.bytes.ptr

-- the two are one frame: one number, and equally many bytes from one place on
pub record IsSame (f g : Frame) : Type 0 where
  pub number : f.number ≡ g.number
  pub start : frame_start f ≡ frame_start g
  pub size : length (bytes_of f) ≡ length (bytes_of g)

pub same_as_itself : (a : Frame) → IsSame a a
same_as_itself a = record { number = refl; start = refl; size = refl }

pub same_back : (a b : Frame) → IsSame a b → IsSame b a
same_back a b s = record { number = sym s.number; start = sym s.start; size = sym s.size }

pub same_along : (a b c : Frame) → IsSame a b → IsSame b c → IsSame a c
same_along a b c s t =
    record { number = s.number ∙ t.number; start = s.start ∙ t.start; size = s.size ∙ t.size }

-- a write leaves a frame the one that it was
pub written_same : (a : Frame) (bytes : List ℕ)
    → IsSame a (record a { bytes = with_items a.bytes bytes })
written_same a bytes = record {
  number = refl;
  start = refl;
  size =
      sym a.bytes.ok.0 ∙ (with_items a.bytes bytes).ok.0;
}

-- the frame has `cap` bytes, and lies where its number says among frames that begin at `start`
pub record IsPlaced (start : Ptr) (cap : ℕ) (f : Frame) : Type 0 where
  pub at : frame_start f ≡ start +ₚ f.number * cap
  pub size : length (bytes_of f) ≡ cap

-- the k-th frame has the number k
abbrev pub AreInOrder : List Frame → Type 0
AreInOrder fs = (k : ℕ) (d : Frame) → k < length fs → (slice_index_or fs k d).number ≡ k

-- all bytes of all frames are 0
abbrev pub AreZero : ℕ → List Frame → Type 0
AreZero cap = All (λ f. bytes_of f ≡ replicate cap 0)

-- so many frames lie from `start` on, in order, and all their bytes are 0
pub record AreFramesFrom (start : Ptr) (n cap : ℕ) (fs : List Frame) : Type 0 where
  pub count : length fs ≡ n
  pub ordered : AreInOrder fs
  pub placed : All (IsPlaced start cap) fs
  pub zero : AreZero cap fs
