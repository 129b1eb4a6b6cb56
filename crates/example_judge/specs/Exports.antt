-- What proofs and other crates import of these files.
pub use Rattle.example_judge.specs.Events.{IsOn}
