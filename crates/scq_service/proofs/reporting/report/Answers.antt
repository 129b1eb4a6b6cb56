use Rattle.scq_service.proofs.reporting.report.Goals as goal

pub returns : goal.returns
returns g c = let wrote = c.write_fault.ensures in record { whole = wrote.whole; part = wrote.part; kept = wrote.kept; rose = wrote.rose }
