-- What an open answers that opened.
use Rattle.std.proofs.Common.{ℕ, List, refl, inl, arith}
use Rattle.scq_c.specs.declared.c_port.CPort.{CPort}
use Rattle.scq_c.specs.declared.c_port.Memory.{Memory}
use Rattle.scq_c.specs.Exports.{OfOpen, HaveOpened}

module _ (order topics hold limit : ℕ) (memory : Memory) (before after : List CPort) where
  pub open_opened : HaveOpened order topics hold limit memory before after → OfOpen order topics hold limit memory 0 before after
  open_opened is =
      record {
        opened = λ e. is;
        refused = λ e. absurd (e refl);
        bad_order = λ e. absurd (omega (arith, e));
        bad_topics = λ e. absurd (omega (arith, e));
        bad_ports = λ e. absurd (omega (arith, e));
        bad_limit = λ e. absurd (omega (arith, e));
        bad_size = λ e. absurd (omega (arith, e));
        bad_hold = λ e. absurd (omega (arith, e));
        is_open = λ e. absurd (omega (arith, e));
        known = inl refl;
      }
