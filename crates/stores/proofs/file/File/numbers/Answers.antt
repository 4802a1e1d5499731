-- `stores::file::File::numbers` meets its contract, member by member.
-- Assumes nothing.
use Rattle.bank.specs.Fields.{luminaire_fields}
use Rattle.stores.specs.File.{numbers_in}
use Rattle.stores.proofs.file.File.numbers.Goals as goal

pub returns : goal.returns
unfolding numbers_in luminaire_fields
returns c =
    rw (
      c.number.ensures.value,
      c.number-2.ensures.value,
      c.number-3.ensures.value,
      c.number-4.ensures.value,
      c.number-5.ensures.value,
      c.number-6.ensures.value,
      c.number-7.ensures.value,
      c.number-8.ensures.value,
      c.number-9.ensures.value,
      c.number-10.ensures.value,
      c.number-11.ensures.value,
      c.number-12.ensures.value,
    )
