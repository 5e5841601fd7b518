use Rattle.server_loop.proofs.server.Server.answer.Goals as goal

pub returns-clause-step : goal.returns-clause-step
returns-clause-step g c = c.reply_to.ensures.says.plain.step

pub returns-clause-stamps : goal.returns-clause-stamps
returns-clause-stamps g c = c.reply_to.ensures.says.plain.stamps

pub returns-clause-edits : goal.returns-clause-edits
returns-clause-edits g c = c.reply_to.ensures.says.plain.edits

pub returns-clause-sessions : goal.returns-clause-sessions
returns-clause-sessions g c = c.reply_to.ensures.says.plain.sessions

pub returns-clause-tablets : goal.returns-clause-tablets
returns-clause-tablets g c = c.reply_to.ensures.says.plain.tablets

pub returns-clause-causes : goal.returns-clause-causes
returns-clause-causes g c = c.reply_to.ensures.says.plain.causes

pub returns-clause-tending : goal.returns-clause-tending
returns-clause-tending g c = c.reply_to.ensures.says.plain.tending

pub returns-clause-resting : goal.returns-clause-resting
returns-clause-resting g c = c.reply_to.ensures.says.resting
