-- The causes for which a call is refused: the paper's numbers.
use Rattle.std.specs.Prelude.{ℕ, ◌+◌, ◌*◌, Result, Ok, Err}
use Rattle.tables.specs.declared.Cause.{Cause as TableCause}
use Rattle.tables.specs.declared.Cause.TheVariants.{Size, Values}
use Rattle.plan.specs.Plans.{number, named_link}
use Rattle.causes.specs.declared.CallCause.{CallCause}
use Rattle.causes.specs.declared.CallCause.TheVariants.{Limit, Buffer, TableSize, TableValues, Place, Choice, SavedWork, OpenSplit, ManyLinks, RowSize, Plan, SecondPlan}

-- accepted, or refused for a cause
abbrev pub CallVerdict : Type 0
CallVerdict = Result (Unit {0}) CallCause

-- a table's causes among those of a call
abbrev pub of_table : TableCause → CallCause
of_table Size = TableSize
of_table Values = TableValues

-- the column Number: plan A's is that of its cause, plan B's 20 more
abbrev pub call_number : CallCause → ℕ
call_number Limit = 7
call_number Buffer = 9
call_number TableSize = 12
call_number TableValues = 13
call_number Place = 8
call_number Choice = 14
call_number SavedWork = 10
call_number OpenSplit = 11
call_number ManyLinks = 15
call_number RowSize = 16
call_number (Plan c) = number c
call_number (SecondPlan c) = number c + 20

-- the link that a cause names, or 0
abbrev pub call_link : CallCause → ℕ
call_link Limit = 0
call_link Buffer = 0
call_link TableSize = 0
call_link TableValues = 0
call_link Place = 0
call_link Choice = 0
call_link SavedWork = 0
call_link OpenSplit = 0
call_link ManyLinks = 0
call_link RowSize = 0
call_link (Plan c) = named_link c
call_link (SecondPlan c) = named_link c

-- the column Returned
abbrev pub call_returned : CallVerdict → ℕ
call_returned (Ok tt) = 0
call_returned (Err c) = call_number c + 256 * call_link c
