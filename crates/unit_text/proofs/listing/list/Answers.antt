use Rattle.unit_text.proofs.Returning.{rewrites, inverse}
use Rattle.unit_text.proofs.listing.list.Goals as goal

pub returns-in-Ok-clause-rewritten : goal.returns-in-Ok-clause-rewritten
returns-in-Ok-clause-rewritten c = rewrites c.args.bytes.now c.type_inv.bytes

pub returns-in-Ok-clause-inverse : goal.returns-in-Ok-clause-inverse
returns-in-Ok-clause-inverse c = inverse c.args.bytes.now c.type_inv.bytes

pub returns-in_ok-push_fault-in-Err-Refused-clause-rewritten : goal.returns-in_ok-push_fault-in-Err-Refused-clause-rewritten
returns-in_ok-push_fault-in-Err-Refused-clause-rewritten c = rewrites c.args.bytes.now c.type_inv.bytes

pub returns-in_ok-push_fault-in-Err-Refused-clause-inverse : goal.returns-in_ok-push_fault-in-Err-Refused-clause-inverse
returns-in_ok-push_fault-in-Err-Refused-clause-inverse c = inverse c.args.bytes.now c.type_inv.bytes

pub returns-in_err-push_fault-in-Err-Refused-clause-rewritten : goal.returns-in_err-push_fault-in-Err-Refused-clause-rewritten
returns-in_err-push_fault-in-Err-Refused-clause-rewritten c = rewrites c.args.bytes.now c.type_inv.bytes

pub returns-in_err-push_fault-in-Err-Refused-clause-inverse : goal.returns-in_err-push_fault-in-Err-Refused-clause-inverse
returns-in_err-push_fault-in-Err-Refused-clause-inverse c = inverse c.args.bytes.now c.type_inv.bytes

pub returns-in-Err-OutOfMemory-clause-rewritten : goal.returns-in-Err-OutOfMemory-clause-rewritten
returns-in-Err-OutOfMemory-clause-rewritten c = rewrites c.args.bytes.now c.type_inv.bytes

pub returns-in-Err-OutOfMemory-clause-inverse : goal.returns-in-Err-OutOfMemory-clause-inverse
returns-in-Err-OutOfMemory-clause-inverse c = inverse c.args.bytes.now c.type_inv.bytes
