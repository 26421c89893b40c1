use Rattle.sp_msg.proofs.EncodedIsRead.{encoded_is_read, no_other_has_its_bytes, tail_is_refused, whole_is_read}
use Rattle.sp_msg.proofs.ReadIsEncoded.{front_is_encoded, read_is_encoded}
use Rattle.sp_msg.proofs.laws.a_body_has_one_spelling.Goals as goal

pub returns-clause-encoded_is_read : goal.returns-clause-encoded_is_read
returns-clause-encoded_is_read c = encoded_is_read

pub returns-clause-whole_is_read : goal.returns-clause-whole_is_read
returns-clause-whole_is_read c = whole_is_read

pub returns-clause-tail_is_refused : goal.returns-clause-tail_is_refused
returns-clause-tail_is_refused c = tail_is_refused

pub returns-clause-no_other_has_its_bytes : goal.returns-clause-no_other_has_its_bytes
returns-clause-no_other_has_its_bytes c = no_other_has_its_bytes

pub returns-clause-read_is_encoded : goal.returns-clause-read_is_encoded
returns-clause-read_is_encoded c = read_is_encoded

pub returns-clause-front_is_encoded : goal.returns-clause-front_is_encoded
returns-clause-front_is_encoded c = front_is_encoded
