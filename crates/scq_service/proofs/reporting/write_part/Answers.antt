use Rattle.scq_service.proofs.reporting.write_part.Goals as goal

pub returns : goal.returns
returns g c = let wrote = c.write_all.ensures in record { whole = wrote.whole; part = wrote.part; kept = wrote.kept; rose = wrote.rose }
