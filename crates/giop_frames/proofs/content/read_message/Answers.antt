use Rattle.giop_frames.proofs.content.read_message.Goals as goal

pub finish_message-requires-clause-walked : goal.finish_message-requires-clause-walked
finish_message-requires-clause-walked c = c.new.ensures.walked c.args.content.now

pub returns-clause-message : goal.returns-clause-message
returns-clause-message c = c.finish_message.ensures.message

pub returns-clause-told : goal.returns-clause-told
returns-clause-told c = c.finish_message.ensures.told

pub returns-clause-memory : goal.returns-clause-memory
returns-clause-memory c = c.finish_message.ensures.memory

pub returns-clause-start : goal.returns-clause-start
returns-clause-start c = c.finish_message.ensures.start
