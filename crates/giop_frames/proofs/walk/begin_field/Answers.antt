use Rattle.std.proofs.lemmas.Result.{err_from_is_err_and}
use Rattle.giop_frames.proofs.Near.{id_stops, flags_stop, reserved_stops, status_stops, operation_stops}
use Rattle.giop_frames.proofs.Walking.{id_told, flags_told, reserved_passed, status_told, operation_told}
use Rattle.giop_frames.proofs.walk.begin_field.Goals as goal

pub returns-in_ok-found-in-Id : goal.returns-in_ok-found-in-Id
returns-in_ok-found-in-Id c = rw c.in-Id.is (id_told c.reading_is_exact.ensures c.args.found.now c.args.reader.now c.ulong.new.self c.in_ok-found-in-Id.field-0 c.in_ok-found-in-Id.ensures.exact)

pub returns-in_ok-found-in-Flags : goal.returns-in_ok-found-in-Flags
returns-in_ok-found-in-Flags c = rw c.in-Flags.is (flags_told c.reading_is_exact.ensures c.args.found.now c.args.reader.now c.octet.new.self c.in_ok-found-in-Flags.field-0 c.in_ok-found-in-Flags.ensures.exact)

pub returns-in_ok-octet-in-Reserved : goal.returns-in_ok-octet-in-Reserved
returns-in_ok-octet-in-Reserved c = rw c.in-Reserved.is (reserved_passed c.reading_is_exact.ensures c.args.found.now c.args.reader.now c.octet-in-Reserved.new.self c.in_ok-octet-in-Reserved.field-0 c.in_ok-octet-in-Reserved.ensures.exact)

pub returns-in_ok-found-in-Status : goal.returns-in_ok-found-in-Status
returns-in_ok-found-in-Status c = rw c.in-Status.is (status_told c.reading_is_exact.ensures c.args.found.now c.args.reader.now c.ulong-in-Status.new.self c.in_ok-found-in-Status.field-0 c.in_ok-found-in-Status.ensures.exact)

pub returns-in_ok-found-in-Operation : goal.returns-in_ok-found-in-Operation
returns-in_ok-found-in-Operation c = rw c.in-Operation.is (operation_told c.reading_is_exact.ensures c.args.found.now c.args.reader.now c.read_string.new.reader c.in_ok-found-in-Operation.field-0 c.in_ok-found-in-Operation.ensures)

pub returns-in_err-found-in-Id : goal.returns-in_err-found-in-Id
returns-in_err-found-in-Id c =
    let p = err_from_is_err_and c.from_residual.result c.from_residual.ensures.1 in
    rw (c.in-Id.is, p.1, p.2) (id_stops c.args.found.now c.args.reader.now c.ulong.new.self c.in_err-found-in-Id.field-0.0 c.in_err-found-in-Id.ensures.exact.0)

pub returns-in_err-found-in-Flags : goal.returns-in_err-found-in-Flags
returns-in_err-found-in-Flags c =
    let p = err_from_is_err_and c.from_residual-in_err-found-in-Flags.result c.from_residual-in_err-found-in-Flags.ensures.1 in
    rw (c.in-Flags.is, p.1, p.2) (flags_stop c.args.found.now c.args.reader.now c.octet.new.self c.in_err-found-in-Flags.field-0.0 c.in_err-found-in-Flags.ensures.exact.0)

pub returns-in_err-octet-in-Reserved : goal.returns-in_err-octet-in-Reserved
returns-in_err-octet-in-Reserved c =
    let p = err_from_is_err_and c.from_residual-in_err-octet-in-Reserved.result c.from_residual-in_err-octet-in-Reserved.ensures.1 in
    rw (c.in-Reserved.is, p.1, p.2) (reserved_stops c.args.found.now c.args.reader.now c.octet-in-Reserved.new.self c.in_err-octet-in-Reserved.field-0.0 c.in_err-octet-in-Reserved.ensures.exact.0)

pub returns-in_err-found-in-Status : goal.returns-in_err-found-in-Status
returns-in_err-found-in-Status c =
    let p = err_from_is_err_and c.from_residual-in_err-found-in-Status.result c.from_residual-in_err-found-in-Status.ensures.1 in
    rw (c.in-Status.is, p.1, p.2) (status_stops c.args.found.now c.args.reader.now c.ulong-in-Status.new.self c.in_err-found-in-Status.field-0.0 c.in_err-found-in-Status.ensures.exact.0)

pub returns-in_err-found-in-Operation : goal.returns-in_err-found-in-Operation
returns-in_err-found-in-Operation c =
    let p = err_from_is_err_and c.from_residual-in_err-found-in-Operation.result c.from_residual-in_err-found-in-Operation.ensures.1 in
    rw (c.in-Operation.is, p.1, p.2) (operation_stops c.args.found.now c.args.reader.now c.read_string.new.reader c.in_err-found-in-Operation.field-0.0 c.in_err-found-in-Operation.ensures)
