-- The lines of the call and the name of the file are those of the stop.
use Rattle.log_run.proofs.run.end_stopped.Goals as goal

pub returns-in-Unread : goal.returns-in-Unread
returns-in-Unread g c =
    let said = rw (c.as_str.ensures.value, c.as_str-in-Unread.ensures.value) at c.end_unread.ensures in
    rw c.in-Unread.is said
