-- What contracts see of a `DateTime`.
use Rattle.sz_calendar.specs.CivilTime.{CivilTime}
use Rattle.sz_calendar.specs.declared.date_time.DateTime.{DateTime}

-- the numbers that it holds
abbrev pub civil_time : DateTime → CivilTime
civil_time date = record {
  year = date.year;
  month = date.month;
  day = date.day;
  hour = date.hour;
  minute = date.minute;
  second = date.second;
}
