use Rattle.sa_records.specs.ServiceRecord.{service_data_asked}
use Rattle.sa_records.proofs.NumberLemmas.{copied}
use Rattle.sa_records.proofs.service_record.copy_numbers.Goals as goal

pub returns : goal.returns
returns c =
    rw (
      c.copy_number-30.ensures,
      c.copy_number-29.ensures,
      c.copy_number-28.ensures,
      c.copy_number-27.ensures,
      c.copy_number-26.ensures,
      c.copy_number-25.ensures,
      c.copy_number-24.ensures,
      c.copy_number-23.ensures,
      c.copy_number-22.ensures,
      c.copy_number-21.ensures,
      c.copy_number-20.ensures,
      c.copy_number-19.ensures,
      c.copy_number-18.ensures,
      c.copy_number-17.ensures,
      c.copy_number-16.ensures,
      c.copy_number-15.ensures,
      c.copy_number-14.ensures,
      c.copy_number-13.ensures,
      c.copy_number-12.ensures,
      c.copy_number-11.ensures,
      c.copy_number-10.ensures,
      c.copy_number-9.ensures,
      c.copy_number-8.ensures,
      c.copy_number-7.ensures,
      c.copy_number-6.ensures,
      c.copy_number-5.ensures,
      c.copy_number-4.ensures,
      c.copy_number-3.ensures,
      c.copy_number-2.ensures,
      c.copy_number.ensures,
    )
    (copied c.args.mask c.args.numbers.now service_data_asked c.args.bytes.now)
