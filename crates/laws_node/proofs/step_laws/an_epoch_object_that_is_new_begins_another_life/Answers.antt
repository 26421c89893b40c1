use Rattle.laws_node.proofs.Epochs.{boots_never_fall, epoch_taken, own_boot_stays}
use Rattle.laws_node.proofs.step_laws.an_epoch_object_that_is_new_begins_another_life.Goals as goal

pub returns-clause-taken : goal.returns-clause-taken
returns-clause-taken c = epoch_taken

pub returns-clause-rise : goal.returns-clause-rise
returns-clause-rise c = boots_never_fall

pub returns-clause-own : goal.returns-clause-own
returns-clause-own c = own_boot_stays
