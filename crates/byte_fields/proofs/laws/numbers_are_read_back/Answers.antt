use Rattle.std.specs.Int.{w16, w32, w64}
use Rattle.std.proofs.Common.{◌^◌}
use Rattle.byte_fields.proofs.Numbers.{numbers, wide16, wide32, wide64}
use Rattle.byte_fields.proofs.laws.numbers_are_read_back.Goals as goal

pub returns-clause-two : goal.returns-clause-two
returns-clause-two g c = numbers c.args.missing w16 (2 ^ 16) wide16

pub returns-clause-four : goal.returns-clause-four
returns-clause-four g c = numbers c.args.missing w32 (2 ^ 32) wide32

pub returns-clause-eight : goal.returns-clause-eight
returns-clause-eight g c = numbers c.args.missing w64 (2 ^ 64) wide64
