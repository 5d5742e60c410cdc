use Rattle.std.proofs.Common.{refl}
use Rattle.std.specs.Fmt.{digits}
use Rattle.serde_json.proofs.OnLiterals.{serde_json_on_literals}
use Rattle.pg_json.specs.Refusals.{refusal_text}
use Rattle.pg_json.proofs.bytes.text_of.Goals as goal

pub returns-in-FrameTooLong : goal.returns-in-FrameTooLong
unfolding serde_json_on_literals digits refusal_text
returns-in-FrameTooLong c = rw c.in-FrameTooLong.is refl

pub returns-in-BadRequest : goal.returns-in-BadRequest
unfolding serde_json_on_literals digits refusal_text
returns-in-BadRequest c = rw c.in-BadRequest.is refl

pub returns-in-UnknownToken : goal.returns-in-UnknownToken
unfolding serde_json_on_literals digits refusal_text
returns-in-UnknownToken c = rw c.in-UnknownToken.is refl

pub returns-in-ReadOnly : goal.returns-in-ReadOnly
unfolding serde_json_on_literals digits refusal_text
returns-in-ReadOnly c = rw c.in-ReadOnly.is refl

pub returns-in-TextTooLong : goal.returns-in-TextTooLong
unfolding serde_json_on_literals digits refusal_text
returns-in-TextTooLong c = rw c.in-TextTooLong.is refl

pub returns-in-BadLexeme : goal.returns-in-BadLexeme
unfolding serde_json_on_literals digits refusal_text
returns-in-BadLexeme c = rw c.in-BadLexeme.is refl

pub returns-in-BadSyntax : goal.returns-in-BadSyntax
unfolding serde_json_on_literals digits refusal_text
returns-in-BadSyntax c = rw c.in-BadSyntax.is refl

pub returns-in-TooDeep : goal.returns-in-TooDeep
unfolding serde_json_on_literals digits refusal_text
returns-in-TooDeep c = rw c.in-TooDeep.is refl

pub returns-in-UndefinedVariable : goal.returns-in-UndefinedVariable
unfolding serde_json_on_literals digits refusal_text
returns-in-UndefinedVariable c = rw c.in-UndefinedVariable.is refl

pub returns-in-VariableAlreadyBound : goal.returns-in-VariableAlreadyBound
unfolding serde_json_on_literals digits refusal_text
returns-in-VariableAlreadyBound c = rw c.in-VariableAlreadyBound.is refl

pub returns-in-BadAggregate : goal.returns-in-BadAggregate
unfolding serde_json_on_literals digits refusal_text
returns-in-BadAggregate c = rw c.in-BadAggregate.is refl

pub returns-in-BadPattern : goal.returns-in-BadPattern
unfolding serde_json_on_literals digits refusal_text
returns-in-BadPattern c = rw c.in-BadPattern.is refl

pub returns-in-UnknownFunction : goal.returns-in-UnknownFunction
unfolding serde_json_on_literals digits refusal_text
returns-in-UnknownFunction c = rw c.in-UnknownFunction.is refl

pub returns-in-DuplicateColumn : goal.returns-in-DuplicateColumn
unfolding serde_json_on_literals digits refusal_text
returns-in-DuplicateColumn c = rw c.in-DuplicateColumn.is refl

pub returns-in-MissingParameter : goal.returns-in-MissingParameter
unfolding serde_json_on_literals digits refusal_text
returns-in-MissingParameter c = rw c.in-MissingParameter.is refl

pub returns-in-TypeFault : goal.returns-in-TypeFault
unfolding serde_json_on_literals digits refusal_text
returns-in-TypeFault c = rw c.in-TypeFault.is refl

pub returns-in-Overflow : goal.returns-in-Overflow
unfolding serde_json_on_literals digits refusal_text
returns-in-Overflow c = rw c.in-Overflow.is refl

pub returns-in-DivisionByZero : goal.returns-in-DivisionByZero
unfolding serde_json_on_literals digits refusal_text
returns-in-DivisionByZero c = rw c.in-DivisionByZero.is refl

pub returns-in-ValueTooLarge : goal.returns-in-ValueTooLarge
unfolding serde_json_on_literals digits refusal_text
returns-in-ValueTooLarge c = rw c.in-ValueTooLarge.is refl

pub returns-in-NotStorable : goal.returns-in-NotStorable
unfolding serde_json_on_literals digits refusal_text
returns-in-NotStorable c = rw c.in-NotStorable.is refl

pub returns-in-MergeNull : goal.returns-in-MergeNull
unfolding serde_json_on_literals digits refusal_text
returns-in-MergeNull c = rw c.in-MergeNull.is refl

pub returns-in-NodeStillConnected : goal.returns-in-NodeStillConnected
unfolding serde_json_on_literals digits refusal_text
returns-in-NodeStillConnected c = rw c.in-NodeStillConnected.is refl

pub returns-in-DeletedEntity : goal.returns-in-DeletedEntity
unfolding serde_json_on_literals digits refusal_text
returns-in-DeletedEntity c = rw c.in-DeletedEntity.is refl

pub returns-in-NegativeCount : goal.returns-in-NegativeCount
unfolding serde_json_on_literals digits refusal_text
returns-in-NegativeCount c = rw c.in-NegativeCount.is refl

pub returns-in-StepQuota : goal.returns-in-StepQuota
unfolding serde_json_on_literals digits refusal_text
returns-in-StepQuota c = rw c.in-StepQuota.is refl

pub returns-in-ElementQuota : goal.returns-in-ElementQuota
unfolding serde_json_on_literals digits refusal_text
returns-in-ElementQuota c = rw c.in-ElementQuota.is refl

pub returns-in-IdsExhausted : goal.returns-in-IdsExhausted
unfolding serde_json_on_literals digits refusal_text
returns-in-IdsExhausted c = rw c.in-IdsExhausted.is refl

pub returns-in-IndexExists : goal.returns-in-IndexExists
unfolding serde_json_on_literals digits refusal_text
returns-in-IndexExists c = rw c.in-IndexExists.is refl

pub returns-in-NoSuchIndex : goal.returns-in-NoSuchIndex
unfolding serde_json_on_literals digits refusal_text
returns-in-NoSuchIndex c = rw c.in-NoSuchIndex.is refl

pub returns-in-TooManyIndexes : goal.returns-in-TooManyIndexes
unfolding serde_json_on_literals digits refusal_text
returns-in-TooManyIndexes c = rw c.in-TooManyIndexes.is refl

pub returns-in-ReplyTooLong : goal.returns-in-ReplyTooLong
unfolding serde_json_on_literals digits refusal_text
returns-in-ReplyTooLong c = rw c.in-ReplyTooLong.is refl

pub returns-in-TenantBusy : goal.returns-in-TenantBusy
unfolding serde_json_on_literals digits refusal_text
returns-in-TenantBusy c = rw c.in-TenantBusy.is refl

pub returns-in-NoTransaction : goal.returns-in-NoTransaction
unfolding serde_json_on_literals digits refusal_text
returns-in-NoTransaction c = rw c.in-NoTransaction.is refl

pub returns-in-TransactionOpen : goal.returns-in-TransactionOpen
unfolding serde_json_on_literals digits refusal_text
returns-in-TransactionOpen c = rw c.in-TransactionOpen.is refl

pub returns-in-NoSuchPage : goal.returns-in-NoSuchPage
unfolding serde_json_on_literals digits refusal_text
returns-in-NoSuchPage c = rw c.in-NoSuchPage.is refl

pub returns-in-HeldRowsQuota : goal.returns-in-HeldRowsQuota
unfolding serde_json_on_literals digits refusal_text
returns-in-HeldRowsQuota c = rw c.in-HeldRowsQuota.is refl

pub returns-in-OutOfMemory : goal.returns-in-OutOfMemory
unfolding serde_json_on_literals digits refusal_text
returns-in-OutOfMemory c = rw c.in-OutOfMemory.is refl
