-- The number of each refusal, which a reply states. Profile.
use Rattle.std.specs.Prelude.{ℕ}
use Rattle.pg_meaning.specs.declared.fault.Fault.{Fault}
use Rattle.pg_meaning.specs.declared.fault.Fault.TheVariants.{FrameTooLong, BadRequest, UnknownToken, ReadOnly, TextTooLong, BadLexeme, BadSyntax, TooDeep, UndefinedVariable, VariableAlreadyBound, BadAggregate, BadPattern, UnknownFunction, DuplicateColumn, MissingParameter, TypeFault, Overflow, DivisionByZero, ValueTooLarge, NotStorable, MergeNull, NodeStillConnected, DeletedEntity, NegativeCount, StepQuota, ElementQuota, IdsExhausted, IndexExists, NoSuchIndex, TooManyIndexes, ReplyTooLong, TenantBusy, NoTransaction, TransactionOpen, NoSuchPage, HeldRowsQuota, OutOfMemory}

abbrev pub code_of : Fault → ℕ
code_of FrameTooLong = 1
code_of BadRequest = 2
code_of UnknownToken = 3
code_of ReadOnly = 4
code_of TextTooLong = 5
code_of BadLexeme = 6
code_of BadSyntax = 7
code_of TooDeep = 8
code_of UndefinedVariable = 9
code_of VariableAlreadyBound = 10
code_of BadAggregate = 11
code_of BadPattern = 12
code_of UnknownFunction = 13
code_of DuplicateColumn = 14
code_of MissingParameter = 15
code_of TypeFault = 16
code_of Overflow = 17
code_of DivisionByZero = 18
code_of ValueTooLarge = 19
code_of NotStorable = 20
code_of MergeNull = 21
code_of NodeStillConnected = 22
code_of DeletedEntity = 23
code_of NegativeCount = 24
code_of StepQuota = 25
code_of ElementQuota = 26
code_of IdsExhausted = 27
code_of IndexExists = 28
code_of NoSuchIndex = 29
code_of TooManyIndexes = 30
code_of ReplyTooLong = 31
code_of TenantBusy = 40
code_of NoTransaction = 41
code_of TransactionOpen = 42
code_of NoSuchPage = 43
code_of HeldRowsQuota = 44
code_of OutOfMemory = 99
