use Rattle.std.proofs.Common.{◌≡◌, ◌+◌, ◌-◌, ◌^◌, false}
use Rattle.scq_files.specs.Exports.{given_in}
use Rattle.scq_files.proofs.ReadLemmas.{FileIsBeingRead}
use Rattle.scq_files.proofs.reading.read_messages.Given as goal

-- what the framer gave so far is handled
abbrev pub invariant-messages : goal.invariant-messages
invariant-messages g l = record {
  reading : FileIsBeingRead l.topics l.longest g.S.Source l.fn.file l.fn.source l.source l.framer (given_in l.given.value);
  ready : g.H.Handler.ready l.with l.beside l.handler;
  handled : g.H.Handler.handled l.with (given_in l.given.value) l.fn.beside l.fn.handler l.beside l.handler;
  fed : g.H.Handler.wanted l.fn.handler ≡ false → g.H.Handler.wanted l.handler ≡ false;
}

-- each message adds to the weight
abbrev pub decreases-messages : goal.decreases-messages
decreases-messages g l = 2 ^ 30 + 2 - l.framer.weight
