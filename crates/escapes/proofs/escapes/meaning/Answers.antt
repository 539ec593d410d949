-- `meaning` meets its contract: at each letter of the table the definition computes, and any other byte is none of its letters.
use mathlib.Core.Path.{sym}
use Rattle.syntax.specs.Escapes.{meanings, letter}
use Rattle.escapes.proofs.EscapeCases.{letter-none}
use Rattle.escapes.proofs.escapes.meaning.Goals as goal

pub returns-in-97 : goal.returns-in-97
unfolding meanings letter
returns-in-97 c = λ at. rw c.in-97.is

pub returns-in-101 : goal.returns-in-101
unfolding meanings letter
returns-in-101 c = λ at. rw c.in-101.is

pub returns-in-102 : goal.returns-in-102
unfolding meanings letter
returns-in-102 c = λ at. rw c.in-102.is

pub returns-in-110 : goal.returns-in-110
unfolding meanings letter
returns-in-110 c = λ at. rw c.in-110.is

pub returns-in-114 : goal.returns-in-114
unfolding meanings letter
returns-in-114 c = λ at. rw c.in-114.is

pub returns-in-116 : goal.returns-in-116
unfolding meanings letter
returns-in-116 c = λ at. rw c.in-116.is

pub returns-in-100 : goal.returns-in-100
unfolding meanings letter
returns-in-100 c = λ at. rw c.in-100.is

pub returns-in-119 : goal.returns-in-119
unfolding meanings letter
returns-in-119 c = λ at. rw c.in-119.is

pub returns-in-115 : goal.returns-in-115
unfolding meanings letter
returns-in-115 c = λ at. rw c.in-115.is

pub returns-in-104 : goal.returns-in-104
unfolding meanings letter
returns-in-104 c = λ at. rw c.in-104.is

pub returns-in-118 : goal.returns-in-118
unfolding meanings letter
returns-in-118 c = λ at. rw c.in-118.is

pub returns-in-68 : goal.returns-in-68
unfolding meanings letter
returns-in-68 c = λ at. rw c.in-68.is

pub returns-in-87 : goal.returns-in-87
unfolding meanings letter
returns-in-87 c = λ at. rw c.in-87.is

pub returns-in-83 : goal.returns-in-83
unfolding meanings letter
returns-in-83 c = λ at. rw c.in-83.is

pub returns-in-72 : goal.returns-in-72
unfolding meanings letter
returns-in-72 c = λ at. rw c.in-72.is

pub returns-in-86 : goal.returns-in-86
unfolding meanings letter
returns-in-86 c = λ at. rw c.in-86.is

pub returns-in_default : goal.returns-in_default
unfolding meanings
returns-in_default c = λ at. sym (letter-none meanings at _ (c.in_default.in_default-own.rest.0.0.0.0.0.0.0.0.0.0.0.0.0.0.0.1, (c.in_default.in_default-own.rest.0.0.0.0.0.0.0.0.0.0.0.0.0.0.1, (c.in_default.in_default-own.rest.0.0.0.0.0.0.0.0.0.0.0.0.0.1, (c.in_default.in_default-own.rest.0.0.0.0.0.0.0.0.0.0.0.0.1, (c.in_default.in_default-own.rest.0.0.0.0.0.0.0.0.0.0.0.1, (c.in_default.in_default-own.rest.0.0.0.0.0.0.0.0.0.0.1, (c.in_default.in_default-own.rest.0.0.0.0.0.0.0.0.0.1, (c.in_default.in_default-own.rest.0.0.0.0.0.0.0.0.1, (c.in_default.in_default-own.rest.0.0.0.0.0.0.0.1, (c.in_default.in_default-own.rest.0.0.0.0.0.0.1, (c.in_default.in_default-own.rest.0.0.0.0.0.1, (c.in_default.in_default-own.rest.0.0.0.0.1, (c.in_default.in_default-own.rest.0.0.0.1, (c.in_default.in_default-own.rest.0.0.1, (c.in_default.in_default-own.rest.0.1, (c.in_default.in_default-own.rest.1, tt)))))))))))))))))
