use Rattle.nodes_lines.proofs.told.tell_sent.Goals as goal

pub returns-in-BeforeCompletion : goal.returns-in-BeforeCompletion
returns-in-BeforeCompletion c = rw c.in-BeforeCompletion.is c.tell_other-in-BeforeCompletion.ensures

pub returns-in-AfterCompletion : goal.returns-in-AfterCompletion
returns-in-AfterCompletion c = rw c.in-AfterCompletion.is c.tell_other-in-AfterCompletion.ensures

pub returns-in-CommitSub : goal.returns-in-CommitSub
returns-in-CommitSub c = rw c.in-CommitSub.is c.tell_other-in-CommitSub.ensures

pub returns-in-RollbackSub : goal.returns-in-RollbackSub
returns-in-RollbackSub c = rw c.in-RollbackSub.is c.tell_other-in-RollbackSub.ensures

pub returns-in-ReplayCompletion : goal.returns-in-ReplayCompletion
returns-in-ReplayCompletion c = rw c.in-ReplayCompletion.is c.tell_other-in-ReplayCompletion.ensures
