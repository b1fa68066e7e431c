-- How an error of a shelf is told by read_all.
use Rattle.apt_shelf.specs.declared.shelf.ReadStart.{ReadStart}
use Rattle.apt_shelf.specs.declared.shelf.ReadStart.TheVariants as starts
use Rattle.apt_shelf.specs.declared.shelf.ShelfFault.{ShelfFault}
use Rattle.apt_shelf.specs.declared.shelf.ShelfFault.TheVariants as faults
use Rattle.apt_shelf.specs.declared.files.ReadError.{ReadError}
use Rattle.apt_shelf.specs.declared.files.ReadError.TheVariants as errors

abbrev pub of_start : ReadStart → ReadError
of_start starts.Missing = errors.Missing
of_start starts.Fault = errors.Fault
of_start starts.NoMemory = errors.NoMemory

abbrev pub of_fault : ShelfFault → ReadError
of_fault faults.Fault = errors.Fault
of_fault faults.NoMemory = errors.NoMemory
