-- Which places stay live where a ticket changes.
use Rattle.std.proofs.Common.{◌≡◌, ℕ, true, false, ap, sym, ◌∙◌, ◌⊎◌, inl, inr}
use Rattle.scq_core.proofs.UpdatedLemmas.{updated_entry_or}
use Rattle.scq_law.proofs.Base.Ghosts.{Ghost, PutState, GetState, placed, is_placed, waiting, with_put, with_get}
use Rattle.scq_law.proofs.Base.EventFacts.{Live}

-- the live places before and after
pub record Lives (g h : Ghost) : Type 0 where
  pub back : (r p i : ℕ) → Live h r p i → Live g r p i
  pub forth : (r p i : ℕ) → Live g r p i → Live h r p i

pub lives_same : (g : Ghost) → Lives g g
lives_same g = record { back = λ r p i live. live; forth = λ r p i live. live }

-- a ticket of a put changes where nothing is placed before or after
pub lives_put : (g : Ghost) (r t : ℕ) (x : PutState) → is_placed (g.puts r t) ≡ false → is_placed x ≡ false → Lives g (with_put g r t x)
lives_put g r t x was is =
    record {
      back =
          λ q p i live.
          elim (updated_entry_or g.puts r t x q p) [
            | inl a ↦
                let new : x ≡ placed i live.content live.maker = sym a.2 ∙ live.is in
                let clash : is_placed x ≡ true = ap is_placed new in
                absurd (cc)
            | inr a ↦ record { content = live.content; maker = live.maker; is = sym a.1 ∙ live.is; waits = live.waits }
          ];
      forth =
          λ q p i live.
          elim (updated_entry_or g.puts r t x q p) [
            | inl a ↦
                let ring = a.0 in
                let ticket = a.1 in
                let clash : is_placed (g.puts q p) ≡ true = ap is_placed live.is in
                absurd (cc)
            | inr a ↦ record { content = live.content; maker = live.maker; is = a.1 ∙ live.is; waits = live.waits }
          ];
    }

-- a ticket of a get changes where nothing is placed, or between states that wait
pub lives_get : (g : Ghost) (r h : ℕ) (x : GetState) → (is_placed (g.puts r h) ≡ false) ⊎ (waiting x ≡ waiting (g.gets r h)) → Lives g (with_get g r h x)
lives_get g r h x either =
    record {
      back =
          λ q p i live.
          elim (updated_entry_or g.gets r h x q p) [
            | inl a ↦
                let same = waits_same q p a.0 a.1 (ap is_placed live.is) in
                let old : waiting (g.gets r h) ≡ true = sym same ∙ ap waiting (sym a.2) ∙ live.waits in
                record { content = live.content; maker = live.maker; is = live.is; waits = rw (a.0, a.1) old }
            | inr a ↦ record { content = live.content; maker = live.maker; is = live.is; waits = ap waiting (sym a.1) ∙ live.waits }
          ];
      forth =
          λ q p i live.
          elim (updated_entry_or g.gets r h x q p) [
            | inl a ↦
                let same = waits_same q p a.0 a.1 (ap is_placed live.is) in
                let old : waiting (g.gets r h) ≡ true = rw (a.0, a.1) at live.waits in
                record { content = live.content; maker = live.maker; is = live.is; waits = ap waiting a.2 ∙ same ∙ old }
            | inr a ↦ record { content = live.content; maker = live.maker; is = live.is; waits = ap waiting a.1 ∙ live.waits }
          ];
    }
  where
    waits_same : (q p : ℕ) → q ≡ r → p ≡ h → is_placed (g.puts q p) ≡ true → waiting x ≡ waiting (g.gets r h)
    waits_same q p ring ticket full =
        elim either [ inl empty ↦ let there : is_placed (g.puts r h) ≡ true = rw (← ring, ← ticket) full in absurd (cc) | inr same ↦ same ]
