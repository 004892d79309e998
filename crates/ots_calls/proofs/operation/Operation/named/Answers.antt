use Rattle.std.proofs.Common.{◌&&◌, List, find, ap}
use Rattle.std.specs.Str.{bytes_eq}
use Rattle.ots_calls.specs.declared.operation.Operation.{Operation}
use Rattle.ots_calls.specs.Table.{serves, word_of}
use Rattle.ots_calls.proofs.Tables.{named_among_few}
use Rattle.ots_calls.proofs.operation.Operation.named.Goals as goal

pub returns : goal.returns
returns c =
    let among = ap (λ (some : List Operation). find (λ one. serves c.args.kind one && bytes_eq c.args.word.now (word_of one)) some) c.of_length.ensures in
    let few = named_among_few c.args.kind c.args.word.now in
    cc
