use Rattle.scq_check.proofs.endings.ends_as.Goals as goal

pub returns-in-Token : goal.returns-in-Token
returns-in-Token c = rw (c.in-Token.is, c.in-Get.is) (c.is_token.ensures c.in-Get.queue)
