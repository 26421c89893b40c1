use Rattle.sp_client.proofs.RequestLemmas.{requests_have_their_own_line, spelled_requests_are_read}
use Rattle.sp_client.proofs.reading.requests_have_one_line.Goals as goal

pub returns-clause-read : goal.returns-clause-read
returns-clause-read c = spelled_requests_are_read

pub returns-clause-own : goal.returns-clause-own
returns-clause-own c = requests_have_their_own_line
