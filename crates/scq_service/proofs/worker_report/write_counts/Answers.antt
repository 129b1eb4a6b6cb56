use Rattle.std.proofs.Common.{◌++◌, codes, decimal}
use Rattle.scq_service.proofs.Writings.{part-first, part-second}
use Rattle.scq_service.proofs.worker_report.write_counts.Goals as goal

pub returns-in_err-write_named-clause-part : goal.returns-in_err-write_named-clause-part
returns-in_err-write_named-clause-part g c =
    let sent = codes " sent " ++ decimal c.args.sent in
    let taken = codes " taken " ++ decimal c.args.taken in
    let direct = codes " direct " ++ decimal c.args.direct in
    part-first _ _ sent (taken ++ (direct ++ codes "\n")) c.write_named.ensures.part

pub returns-in_err-write_named-2-clause-part : goal.returns-in_err-write_named-2-clause-part
returns-in_err-write_named-2-clause-part g c =
    let sent = codes " sent " ++ decimal c.args.sent in
    let taken = codes " taken " ++ decimal c.args.taken in
    let direct = codes " direct " ++ decimal c.args.direct in
    part-second _ _ _ sent (taken ++ (direct ++ codes "\n")) c.in_ok-write_named.ensures.whole
    (part-first _ _ taken (direct ++ codes "\n") c.write_named-2.ensures.part)

pub returns-in_err-write_named-3-clause-part : goal.returns-in_err-write_named-3-clause-part
returns-in_err-write_named-3-clause-part g c =
    let sent = codes " sent " ++ decimal c.args.sent in
    let taken = codes " taken " ++ decimal c.args.taken in
    let direct = codes " direct " ++ decimal c.args.direct in
    part-second _ _ _ sent (taken ++ (direct ++ codes "\n")) c.in_ok-write_named.ensures.whole
    (part-second _ _ _ taken (direct ++ codes "\n") c.in_ok-write_named-2.ensures.whole
    (part-first _ _ direct (codes "\n") c.write_named-3.ensures.part))

pub returns-clause-part : goal.returns-clause-part
returns-clause-part g c =
    let sent = codes " sent " ++ decimal c.args.sent in
    let taken = codes " taken " ++ decimal c.args.taken in
    let direct = codes " direct " ++ decimal c.args.direct in
    part-second _ _ _ sent (taken ++ (direct ++ codes "\n")) c.in_ok-write_named.ensures.whole
    (part-second _ _ _ taken (direct ++ codes "\n") c.in_ok-write_named-2.ensures.whole
    (part-second _ _ _ direct (codes "\n") c.in_ok-write_named-3.ensures.whole c.write_all.ensures.part))
