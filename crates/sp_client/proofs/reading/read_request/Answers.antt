use Rattle.sp_client.proofs.LineLemmas.{read_of_words}
use Rattle.sp_client.proofs.reading.read_request.Goals as goal

pub returns : goal.returns
returns c = read_of_words c.args.bytes.now _ c.request_of.result c.if-bytes-gt-MAX_REQUEST_BYTES.false (rw c.as_slice.ensures.value c.in_ok-words.ensures)
    c.request_of.ensures
